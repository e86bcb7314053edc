-- A part is stable if it is its own closure, and two rulings are equal exactly if they have the same points.
use Rattle.std.proofs.Common.{◌≡◌, Bool, true, ◌↔◌, sym, ap, ◌∙◌, subst}
use Rattle.std.specs.Str.{bytes_eq}
use mathlib.Core.Path.{fun_ext}
use Rattle.rulings.specs.Points.{Points}
use Rattle.rulings.specs.Rulings.{has}
use Rattle.rulings.specs.declared.ruling.Ruling.{Ruling}
use Rattle.rulings.proofs.Equality.{equal_tells}
use Rattle.semantics.specs.Meaning.{Meaning}
use Rattle.semantics.specs.Chapters.{restricted}
use Rattle.semantics.specs.Closure.{IsClosure, Stable}
use Rattle.semantics.proofs.Closures.{unique}
use Rattle.chapters.proofs.candidates.is_stable_over.Goals as goal

own_closure : (m : Meaning) (x c : Ruling) (r : Bool) → IsClosure m (has x) (has c) → r ≡ bytes_eq x.bytes c.bytes → (r ≡ true) ↔ Stable m (has x)
own_closure m x c r is equal = (
  λ e. subst (IsClosure m (has x)) (sym (fun_ext ((equal_tells x c).0 (sym equal ∙ e)))) is,
  λ s. equal ∙ (equal_tells x c).1 (λ a. ap (λ (z : Points). z a) (unique m (has x) (has x) (has c) s is)),
)

pub returns : goal.returns
returns g c =
    own_closure (restricted (g.B.Book.meaning c.args.book.now) (has c.args.points) (has c.args.lower) (has c.args.lower)) c.args.part c.closure.result c.eq.result
    (let o = c.over-chapter.ensures in simp (o.book, o.points, o.supporters, o.strikers) at c.closure.ensures) c.eq.ensures
