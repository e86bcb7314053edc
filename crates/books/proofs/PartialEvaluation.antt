-- A chapter of a book whose meaning a program gives is given by the partial evaluation of the program.
use Rattle.std.proofs.Common.{◌≡◌, ℕ, ◌<◌, ◌≤◌, Bool, true, false, ◌&&◌, eqb, ◌⊎◌, sym, refl, ap, ◌∙◌, subst, inl, inr, arith, ltb-true, le-ltb, lt-ltb, eq-eqb, ne_eqb, eqb-true}
use Rattle.std.proofs.lemmas.Bool.{cases_lt, and_parts, and_from}
use Rattle.rulings.specs.Points.{Points, Part, Disjoint, union}
use Rattle.semantics.specs.Meaning.{Meaning}
use Rattle.semantics.specs.Chapters.{Fit, in_chapter, below_chapter, chapter}
use Rattle.books.specs.PartialEvaluation.{EvaluatesTo}
use Rattle.books.specs.Program.{Rule, Program, Derives, evaluated}
use Rattle.books.specs.Tests.{or_nothing}
use Rattle.books.proofs.Programs.{GivenBy, ReadsBodies, stable_is_stable_model}

module _ (ch : ℕ → ℕ) (k : ℕ) where
  -- the points of z in the lower chapters, and those of x in chapter k
  abbrev pub joined : Points → Points → Points
  joined z x = union (below_chapter ch k z) (in_chapter ch k x)

  joined_lower : (z x : Points) (b : ℕ) → ch b < k → joined z x b ≡ z b
  joined_lower z x b l = rw (lt-ltb (ch b) k l, ne_eqb (ch b) k (λ e. omega arith)) (or_nothing (z b) false refl)

  joined_here : (z x : Points) (b : ℕ) → ch b ≡ k → joined z x b ≡ x b
  joined_here z x b e = rw (le-ltb (ch b) k (omega arith), eq-eqb (ch b) k e) refl

  -- A body p, looked up in such a set, is its lower part looked up in z and its part in chapter k looked up in x;
  -- every point of it is to be there (t is true), or none (t is false).
  module _ (p z x : Points) (t : Bool) where
    pub split_lower : ((b : ℕ) → p b ≡ true → joined z x b ≡ t) → (b : ℕ) → below_chapter ch k p b ≡ true → z b ≡ t
    split_lower h b q = let s = and_parts _ _ q in sym (joined_lower z x b (ltb-true (ch b) k s.0)) ∙ h b s.1

    pub split_here : ((b : ℕ) → p b ≡ true → joined z x b ≡ t) → (b : ℕ) → in_chapter ch k p b ≡ true → x b ≡ t
    split_here h b q = let s = and_parts _ _ q in sym (joined_here z x b (eqb-true (ch b) k s.0)) ∙ h b s.1

    pub join : ((b : ℕ) → p b ≡ true → ch b ≤ k) → ((b : ℕ) → below_chapter ch k p b ≡ true → z b ≡ t) →
        ((b : ℕ) → in_chapter ch k p b ≡ true → x b ≡ t) → (b : ℕ) → p b ≡ true → joined z x b ≡ t
    join fits lower here b q = go (cases_lt (ch b) k)
      where
        go : (ch b < k) ⊎ (k ≤ ch b) → joined z x b ≡ t
        go (inl l) = joined_lower z x b l ∙ lower b (and_from _ _ (lt-ltb (ch b) k l) q)
        go (inr l) =
            let e : ch b ≡ k = omega (arith, fits b q) in
            joined_here z x b e ∙ here b (and_from _ _ (eq-eqb (ch b) k e) q)

-- under chapters that fit, the chapter under the lower points of U and V is given by the evaluated program
module _ (m : Meaning) (P : Program) (given : GivenBy m P) (reads : ReadsBodies m P) (ch : ℕ → ℕ) (fit : Fit m ch) (k : ℕ) (U V : Points) where
  pub given_by_evaluated : GivenBy (chapter m ch k (below_chapter ch k U) (below_chapter ch k V)) (evaluated ch k U V P)
  given_by_evaluated x y a = (by_evaluated, by_chapter)
    where
      by_evaluated : eqb (ch a) k && m.derives (joined ch k U x) (joined ch k V y) a ≡ true → Derives (evaluated ch k U V P) x y a
      by_evaluated h =
          let q = and_parts _ _ h in
          let w = (given (joined ch k U x) (joined ch k V y) a).0 q.1 in
          let s = w.0 in
          let at : s.head ≡ a = w.2 in (
            record { head = s.head; positive = in_chapter ch k s.positive; negative = in_chapter ch k s.negative },
            (
              s,
              w.1,
              ap ch at ∙ eqb-true (ch a) k q.0,
              split_lower ch k s.positive U x true w.3,
              split_lower ch k s.negative V y false w.4,
              refl,
            ),
            at,
            split_here ch k s.positive U x true w.3,
            split_here ch k s.negative V y false w.4,
          )

      by_chapter : Derives (evaluated ch k U V P) x y a → eqb (ch a) k && m.derives (joined ch k U x) (joined ch k V y) a ≡ true
      by_chapter (r, (s, h, inside, low_p, low_n, q), at, p, n) =
          let head : s.head ≡ a = subst (λ (r : Rule). r.head ≡ a) q at in
          let lower : (b : ℕ) → (s.positive b ≡ true) ⊎ (s.negative b ≡ true) → ch b ≤ k = λ b named. omega (arith, fit s.head b (reads s h b named)) in
          and_from _ _ (eq-eqb (ch a) k (sym (ap ch head) ∙ inside)) ((given (joined ch k U x) (joined ch k V y) a).1 (
            s,
            h,
            head,
            join ch k s.positive U x true (λ b i. lower b (inl i)) low_p (subst (λ (r : Rule). Part r.positive x) q p),
            join ch k s.negative V y false (λ b i. lower b (inr i)) low_n (subst (λ (r : Rule). Disjoint r.negative y) q n),
          ))

-- so the chapters of a book are evaluated, if a program gives its meaning and the book reads the bodies of the rules
pub evaluates : (m : Meaning) (P : Program) → GivenBy m P → ReadsBodies m P → EvaluatesTo m P
evaluates m P given reads =
    record {
      derives = given_by_evaluated m P given reads;
      stable = λ ch fit k U V.
          stable_is_stable_model (chapter m ch k (below_chapter ch k U) (below_chapter ch k V)) (evaluated ch k U V P)
          (given_by_evaluated m P given reads ch fit k U V);
      parts = λ ch fit k Y.
          stable_is_stable_model (chapter m ch k (below_chapter ch k Y) (below_chapter ch k Y)) (evaluated ch k Y Y P)
          (given_by_evaluated m P given reads ch fit k Y Y) (in_chapter ch k Y);
    }
