-- The table of chapters.
use Rattle.std.specs.Prelude.{◌≡◌, ℕ, cond, replicate, nat_lt, slice_index}
use Rattle.chapters.specs.declared.chapters.Chapters.{Chapters}

-- the chapter of a point; 0 for a number that no book has as a point
abbrev pub chapter_of : Chapters → ℕ → ℕ
chapter_of c a = cond (nat_lt a 128) (slice_index c.numbers a) 0

-- every point is in chapter 0
abbrev pub AllInChapter0 : Chapters → Type 0
AllInChapter0 c = c.numbers ≡ replicate 128 0
