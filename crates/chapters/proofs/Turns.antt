-- The turns of a climb, one after another.
use Rattle.std.proofs.Common.{◌≡◌, ℕ, ◌+◌, sym, ap, ◌∙◌, subst, add-one}
use Rattle.rulings.specs.Points.{Points, Part}
use Rattle.rulings.specs.Rulings.{has}
use Rattle.rulings.specs.declared.ruling.Ruling.{Ruling}
use Rattle.semantics.proofs.LeastFixpoint.{iterate, settles, within_prefixpoint}
use Rattle.chapters.specs.declared.climbing.Step.{Step}
use Rattle.chapters.specs.Climbing.{StepOf, LeastPrefixpoint}

module _ {T : Type 0} (step : Ruling → Step T → Type 0) (n : ℕ) (f : Points → Points) (s : StepOf step n f) (k : ℕ) (x : Ruling) (e : has x ≡ iterate f k) where
  pub climbed_more : (z : Step T) → step x z → has z.next ≡ iterate f (k + 1)
  climbed_more z h = rw add-one (s.taken x z h ∙ ap f e)

  reached : Part (f (has x)) (has x) → LeastPrefixpoint f (has x)
  reached part = record { closed = part; least = λ Z z. subst (λ (y : Points). Part y Z) (sym e) (within_prefixpoint n f s.monotone s.inside Z z k) }

  -- nothing new
  pub climbed_settled : (z : Step T) → step x z → Part (has z.next) (has x) → LeastPrefixpoint f (has x)
  climbed_settled z h part = reached (subst (λ (y : Points). Part y (has x)) (s.taken x z h) part)

  -- as many turns as there are points
  pub climbed_all : k ≡ n → LeastPrefixpoint f (has x)
  climbed_all all = reached (subst (λ (y : Points). Part (f y) y) (sym (e ∙ ap (iterate f) all)) (settles n f s.monotone s.inside))
