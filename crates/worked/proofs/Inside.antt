-- The lines by which a rule book is written down name only its points, as its entries do.
use Rattle.std.specs.List.{All, AllZip}
use Rattle.std.proofs.Common.{◌≡◌, ℕ, zero, suc, ◌<◌, true, List, [], ◌∷◌, ap, ◌∙◌, subst, arith}
use Rattle.std.proofs.lemmas.Bool.{or_left, or_right}
use Rattle.rulings.specs.Points.{Points}
use Rattle.rulings.specs.Rulings.{has}
use Rattle.books.specs.declared.entry.Entry.{Entry}
use Rattle.books.specs.Entries.{names}
use Rattle.books.specs.RuleBook.{entries}
use Rattle.books.specs.Lines.{Line}
use Rattle.worked.specs.Books.{Is, Inside, LinesInside}

module _ (n : ℕ) where
  is_inside : (e : Entry) (l : Line) → Is e l → e.point < n → ((b : ℕ) → names e b ≡ true → b < n) → Inside n l
  is_inside e l is head body =
      record {
        point = omega arith;
        supporters = λ a h. body a (or_left (has e.supporters a) (has e.strikers a) (ap (λ (x : Points). x a) is.supporters ∙ h));
        strikers = λ a h. body a (or_right (has e.supporters a) (has e.strikers a) (ap (λ (x : Points). x a) is.strikers ∙ h));
      }

  each_inside : (es : List Entry) (ls : List Line) → AllZip Is es ls →
      All (λ e. e.point < n) es → All (λ e. (b : ℕ) → names e b ≡ true → b < n) es → All (Inside n) ls
  each_inside [] [] w heads bodies k d i = absurd (omega arith)
  each_inside [] (l ∷ ls) w heads bodies k d i = absurd w
  each_inside (e ∷ es) [] w heads bodies k d i = absurd w
  each_inside (e ∷ es) (l ∷ ls) w heads bodies zero d i = is_inside e l w.0 (heads 0 e (omega arith)) (bodies 0 e (omega arith))
  each_inside (e ∷ es) (l ∷ ls) w heads bodies (suc k) d i =
      each_inside es ls w.1 (λ j c q. heads (suc j) c (omega arith)) (λ j c q. bodies (suc j) c (omega arith)) k d (omega arith)

pub lines_inside : LinesInside
lines_inside n ls b r = subst (λ (m : ℕ). All (Inside m) ls) r.sized (each_inside b.size (entries b) ls r.written b.heads b.bodies)
