-- The table of chapters: its numbers, and the parts of a ruling that it cuts.
use Rattle.std.proofs.Common.{◌≡◌, ℕ, ◌<◌, ◌≤◌, cond, ◌&&◌, eqb, ltb, get_or, refl, ◌∙◌, arith, le-ltb, lt-ltb}
use native.Mathlib.Decide.{dec_lt}
use Rattle.std.proofs.lemmas.List.{get_or-replicate}
use Rattle.rulings.specs.Rulings.{has}
use Rattle.rulings.specs.declared.ruling.Ruling.{Ruling}
use Rattle.chapters.specs.declared.chapters.Chapters.{Chapters}
use Rattle.chapters.specs.Table.{chapter_of, AllInChapter0}

-- where every point is in chapter 0, each is in one of the sixteen
pub chapter_0_of_16 : (c : Chapters) → AllInChapter0 c → (a : ℕ) → chapter_of c a < 16
chapter_0_of_16 c all a = go (dec_lt a 128)
  where
    go : Dec (a < 128) → cond (ltb a 128) (get_or c.numbers a 0) 0 < 16
    go (yes l) = rw (lt-ltb a 128 l, all, get_or-replicate {A = ℕ} 128 a 0 0 l) (omega arith)
    go (no n) = rw (le-ltb a 128 (omega (arith, n))) (omega arith)

-- the points of a chapter, as the table gives them, are the chapter's for every book
pub points_of_chapter : (c : Chapters) (k n : ℕ) (points : Ruling) → n ≤ 128 → ((a : ℕ) → has points a ≡ ltb a 128 && eqb (chapter_of c a) k) →
    (a : ℕ) → a < n → has points a ≡ eqb (chapter_of c a) k
points_of_chapter c k n points few exact a h = exact a ∙ rw (lt-ltb a 128 (omega arith)) refl
