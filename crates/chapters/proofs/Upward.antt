-- Upward readings: one is the first, and there is none where the chapters fit.
use Rattle.std.proofs.Common.{◌≡◌, ℕ, ltb, Some, sym, ◌∙◌, subst, inl, inr, arith, ltb-true}
use Rattle.std.proofs.lemmas.Bool.{cases_order, and_parts}
use Rattle.rulings.specs.Points.{Lowest}
use Rattle.semantics.specs.Meaning.{Meaning}
use Rattle.semantics.specs.Chapters.{Fit}
use Rattle.semantics.proofs.Tests.{false_is_not_true}
use Rattle.answers.specs.declared.fault.Fault.{Fault}
use Rattle.books.specs.Faults.{one_lowest}
use Rattle.chapters.specs.Fitting.{upward, FirstUpward, UpwardDenied}

module _ (m : Meaning) (ch : ℕ → ℕ) where
  first_once : (a b c d : ℕ) → FirstUpward m ch (Some (a, b)) → FirstUpward m ch (Some (c, d)) → (a ≡ c) × (b ≡ d)
  first_once a b c d (u, read, reader) (u', read', reader') =
      elim (cases_order a c) [
        | inl e ↦ (e, one_lowest (upward m ch a) b d (u, read) (subst (λ (n : ℕ). Lowest (upward m ch n) (Some d)) (sym e) (u', read')))
        | inr (inl l) ↦ false_is_not_true (sym (reader' a b l) ∙ u)
        | inr (inr l) ↦ false_is_not_true (sym (reader c d l) ∙ u')
      ]

  pub upward_once : (f f' : Fault) → UpwardDenied m ch f → UpwardDenied m ch f' → f ≡ f'
  upward_once f f' (a, b, e, first) (c, d, e', first') =
      let (p, q) = first_once a b c d first first' in
      cc

  pub fitting : {A : Type 0} (f : Fault) → Fit m ch → UpwardDenied m ch f → A
  fitting f fit (a, b, e, (u, _, _)) =
      let (reads, up) = and_parts (m.reads a b) (ltb (ch a) (ch b)) u in
      absurd (omega (arith, fit a b reads, ltb-true (ch a) (ch b) up))
