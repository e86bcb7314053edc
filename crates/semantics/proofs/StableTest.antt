-- A test for stable parts: compare a part with its closure, point by point.
use Rattle.std.proofs.Common.{◌≡◌, ℕ, zero, suc, ◌<◌, Bool, true, false, ◌↔◌, sym, refl, ◌∙◌, subst, inl, inr, arith}
use mathlib.Core.Path.{fun_ext}
use mathlib.Core.Bool.{beq}
use Rattle.std.proofs.lemmas.Bool.{cases_lt, false_from_ne_true, and_parts, and_from, agree_below, agree_below_at}
use Rattle.rulings.specs.Points.{Points}
use Rattle.semantics.specs.Meaning.{Meaning, Lawful}
use Rattle.semantics.specs.Closure.{IsClosure, Stable}
use Rattle.semantics.specs.Chapters.{in_chapter, below_chapter, chapter}
use Rattle.semantics.specs.Walk.{points_of, spread, Test, Tells, passes}
use Rattle.semantics.proofs.Tests.{both_ways}
use Rattle.semantics.proofs.Closures.{closure, is_closure, unique, closure_inside}
use Rattle.semantics.proofs.Splitting.{chapter_lawful}
use Rattle.semantics.proofs.Subsets.{spread_part}
use Rattle.semantics.proofs.Fillings.{points_inside}

agree_itself : (n : ℕ) (x : Points) → agree_below x x n ≡ true
agree_itself zero x = refl
agree_itself (suc n) x = and_from _ _ (here (x n)) (agree_itself n x)
  where
    here : (s : Bool) → beq s s ≡ true
    here true = refl
    here false = refl

-- whether x is its own closure in chapter k over U, by the points of the book
unfoldable pub stable_test : Meaning → (ℕ → ℕ) → Test
stable_test m ch k U x = agree_below (closure (chapter m ch k U U) x) x m.size

module _ (m : Meaning) (l : Lawful m) (ch : ℕ → ℕ) where
  -- of a set of points of the book, the test tells whether it is stable
  pub stable_test_decides : (k : ℕ) (U x : Points) → ((a : ℕ) → x a ≡ true → a < m.size) →
      (stable_test m ch k U x ≡ true) ↔ Stable (chapter m ch k U U) x
  unfolding stable_test
  stable_test_decides k U x inside = (to, from)
    where
      w : Meaning
      w = chapter m ch k U U

      c : IsClosure w x (closure w x)
      c = is_closure w (chapter_lawful m l ch k U U) x

      to : agree_below (closure w x) x m.size ≡ true → Stable w x
      to h =
          subst (IsClosure w x)
          (fun_ext (λ a. elim (cases_lt a m.size) [
            | inl q ↦ agree_below_at (closure w x) x m.size a h q
            | inr q ↦
                false_from_ne_true (closure w x a) (λ e. let i = closure_inside w (chapter_lawful m l ch k U U) x (closure w x) c a e in omega arith)
                ∙ sym (false_from_ne_true (x a) (λ e. let i = inside a e in omega arith))
          ])) c

      from : Stable w x → agree_below (closure w x) x m.size ≡ true
      from s = subst (λ (z : Points). agree_below z x m.size ≡ true) (unique w x x (closure w x) s c) (agree_itself m.size x)

  pub stable_test_tells : Tells m ch (stable_test m ch)
  stable_test_tells k Y inside =
      stable_test_decides k (below_chapter ch k Y) (in_chapter ch k Y) (λ a h. inside a (and_parts _ _ h).1)

  -- an answer whether a candidate is stable is the test's
  pub stable_test_is : (k : ℕ) (U : Points) (c : ℕ) (r : Bool) → (r ≡ true) ↔ Stable (chapter m ch k U U) (spread (points_of m ch k) c) →
      r ≡ passes m ch (stable_test m ch) k U c
  stable_test_is k U c r h =
      let d = stable_test_decides k U (spread (points_of m ch k) c) (λ a e. points_inside m ch k a (spread_part (points_of m ch k) c a e)) in
      both_ways r (passes m ch (stable_test m ch) k U c) (λ e. d.1 (h.0 e)) (λ e. h.1 (d.0 e))
