-- New markers: there are some, and what the books that they hold list with every point in chapter 0 is what they list.
use Rattle.std.proofs.Common.{◌≡◌, ℕ, List, [], ◌∷◌, replicate, sym, refl, ap, subst, arith}
use Rattle.std.specs.List.{AllZip}
use mathlib.Core.Path.{fun_ext}
use Rattle.rulings.specs.Points.{Points}
use Rattle.semantics.specs.Meaning.{Meaning}
use Rattle.books.specs.declared.entry.Entry.{Entry}
use Rattle.books.specs.RuleBook.{entries, meaning_of}
use Rattle.books.specs.ProtestBook.{protest_meaning}
use Rattle.chapters.specs.declared.chapters.Chapters.{Chapters}
use Rattle.chapters.proofs.Numbers.{chapter_0_of_16}
use Rattle.marker.specs.declared.marker.Marker.{Marker}
use Rattle.marker.specs.State.{book_of, chapters_of, placing}
use Rattle.worked.specs.Books.{Is, OfEach, OfRules, OfProtests, NewOverRules, NewOverProtests, chapters}
use Rattle.worked.specs.Answers.{GivesListing}
use Rattle.worked.proofs.Standing.{tables_place}

-- the table in which every point is in chapter 0
all_zero : Chapters
all_zero = record { numbers = replicate 128 0 }

new_marker : {B : Type 0} → B → Marker B
unfolding all_zero
new_marker b = record { book = b; chapters = all_zero; sixteen = chapter_0_of_16 all_zero refl }

module _ (sets : List (List ℕ)) (effort : ℕ) where
  -- the listing, by what a book means and where its points are placed
  abbrev Given : Meaning → (ℕ → ℕ) → Type 0
  Given m ch = GivesListing m ch sets effort

  pub new_rules : OfRules 1 [] (λ m. Given m (chapters [])) → OfEach NewOverRules (λ m. Given (meaning_of (book_of m)) (placing m))
  unfolding new_marker all_zero
  new_rules h =
      record {
        some = let (b, is) = h.some in (new_marker b, record { sized = is.sized; empty = none (entries b) is.written; placed = refl });
        each = λ m new. subst (Given (meaning_of (book_of m))) (sym (tables_place (chapters_of m) [] (omega arith) new.placed))
            (h.each (book_of m)
            (record { sized = new.sized; written = subst (λ (es : List Entry). AllZip Is es []) (sym new.empty) tt }));
      }
    where
      none : (es : List Entry) → AllZip Is es [] → es ≡ []
      none [] w = refl
      none (e ∷ es) w = absurd w

  pub new_protests : OfProtests 1 [] [] (λ m. Given m (chapters [])) → OfEach NewOverProtests (λ m. Given (protest_meaning (book_of m)) (placing m))
  unfolding new_marker all_zero
  new_protests h =
      record {
        some = let (b, is) = h.some in (
          new_marker b,
          record { sized = is.sized; lodging = λ a. ap (λ (x : Points). x a) is.lodging; protests = is.protests; placed = refl },
        );
        each = λ m new. subst (Given (protest_meaning (book_of m))) (sym (tables_place (chapters_of m) [] (omega arith) new.placed))
            (h.each (book_of m) (record { sized = new.sized; lodging = fun_ext new.lodging; protests = new.protests }));
      }
