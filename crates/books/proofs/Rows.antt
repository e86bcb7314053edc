-- The rows of a table of protesters: none in a new table, and what a question of a row answers.
use Rattle.std.proofs.Common.{◌≡◌, ℕ, Bool, true, false, ◌&&◌, ◌↔◌, replicate, None, Some, Option, is_some, slice_index_or, inl, inr, arith}
use Rattle.std.specs.Option.{option_map_or}
use Rattle.std.specs.Prelude.{MatchOption}
use Rattle.std.proofs.lemmas.List.{get_or-replicate, get_or_past, length-replicate}
use Rattle.std.proofs.lemmas.Bool.{cases_lt}
use Rattle.rulings.specs.Points.{Disjoint}
use Rattle.rulings.specs.Rulings.{has}
use Rattle.rulings.specs.declared.ruling.Ruling.{Ruling}
use Rattle.books.specs.Entries.{avoids}
use Rattle.books.proofs.Conditions.{avoids_is}

-- a table of copies of one row
pub none_row : (n a : ℕ) (none : Option Ruling) → slice_index_or (replicate n none) a none ≡ none
none_row n a none =
    elim (cases_lt a n) [
      | inl l ↦ get_or-replicate n a none none l
      | inr l ↦ get_or_past (replicate n none) a none (omega (arith, length-replicate n none))
    ]

-- whether a row is there, and has nothing in common with y
pub row_avoids : (row : Option Ruling) (y : Ruling) (r : Bool) →
    MatchOption row (r ≡ false) (λ q. (r ≡ true) ↔ Disjoint (has q) (has y)) → r ≡ is_some row && avoids (has y) (option_map_or has row (λ _. false))
row_avoids None y r h = h
row_avoids (Some q) y r h = avoids_is q (has y) r h
