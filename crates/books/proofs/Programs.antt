-- Closures, stable sets and the well-founded model of a meaning that a program gives, by the published definitions.
use Rattle.std.specs.Prelude.{◌≡◌, ℕ, true, ◌⊎◌, ◌↔◌, refl}
use Rattle.std.proofs.Common.{sym, subst}
use Rattle.rulings.specs.Points.{Points, Part}
use Rattle.semantics.specs.Meaning.{Meaning}
use Rattle.semantics.specs.Closure.{Closed, IsClosure, Stable}
use Rattle.semantics.specs.WellFounded.{WellFounded}
use Rattle.books.specs.Program.{Rule, DefiniteRule, Program, reduct, Model, LeastModel, StableModel, LeastPrecisePair, Derives}

-- the meaning derives exactly what the program does
abbrev pub GivenBy : Meaning → Program → Type 0
GivenBy m P = (x y : Points) (a : ℕ) → (m.derives x y a ≡ true) ↔ Derives P x y a

module _ (m : Meaning) (P : Program) (given : GivenBy m P) (Y : Points) where
  -- the sets that are closed under Y are the models of the reduct by Y
  pub closed_is_model : (Z : Points) → Closed m Y Z → Model (reduct P Y) Z
  closed_is_model Z c d (r, h, free, q) =
      subst (λ (d : DefiniteRule). Part d.body Z → Z d.head ≡ true) (sym q)
      (λ p. c r.head ((given Z Y r.head).1 (r, h, refl, p, free)))

  pub model_is_closed : (Z : Points) → Model (reduct P Y) Z → Closed m Y Z
  model_is_closed Z model a h =
      let w = (given Z Y a).0 h in
      subst (λ (b : ℕ). Z b ≡ true) w.2 (model (record { head = w.0.head; body = w.0.positive }) (w.0, w.1, w.4, refl) w.3)

  -- so the closure of Y is the least model of the reduct
  pub closure_is_least_model : (X : Points) → IsClosure m Y X ↔ LeastModel (reduct P Y) X
  closure_is_least_model X = (
    (λ s. record {
      model = closed_is_model X s.closed;
      least = λ N n. s.least N (model_is_closed N n);
    }),
    (λ s. record {
      closed = model_is_closed X s.model;
      least = λ Z c. s.least Z (closed_is_model Z c);
    }),
  )

  -- and Y is stable exactly if it is a stable model
  pub stable_is_stable_model : Stable m Y ↔ StableModel P Y
  stable_is_stable_model = closure_is_least_model Y

-- the well-founded model is the least precise fixpoint of the stable operator on pairs
pub well_founded_is_least_precise : (m : Meaning) (P : Program) → GivenBy m P → (S Q : Points) → WellFounded m S Q ↔ LeastPrecisePair P S Q
well_founded_is_least_precise m P given S Q = (
  (λ f. record {
    fixpoint = ((closure Q S).0 f.alternates.sure, (closure S Q).0 f.alternates.possible);
    least_precise = λ S' Q' t. f.extreme S' Q' (record { sure = (closure Q' S').1 t.0; possible = (closure S' Q').1 t.1 });
  }),
  (λ f. record {
    alternates = record { sure = (closure Q S).1 f.fixpoint.0; possible = (closure S Q).1 f.fixpoint.1 };
    extreme = λ S' Q' t. f.least_precise S' Q' ((closure Q' S').0 t.sure, (closure S' Q').0 t.possible);
  }),
)
  where
    closure : (Y X : Points) → IsClosure m Y X ↔ LeastModel (reduct P Y) X
    closure = closure_is_least_model m P given

-- a meaning reads the bodies of a program: a point of the body of a rule is read by the head
abbrev pub ReadsBodies : Meaning → Program → Type 0
ReadsBodies m P = (r : Rule) → P r → (b : ℕ) → (r.positive b ≡ true) ⊎ (r.negative b ≡ true) → m.reads r.head b ≡ true
