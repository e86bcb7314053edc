-- The stable sets of a protest book are the stable extensions of its framework, and what is sure in it is the grounded extension.
use Rattle.std.proofs.Common.{◌≡◌, ℕ, Bool, true, false, ◌&&◌, ◌↔◌, sym, refl, ◌∙◌}
use Rattle.std.proofs.lemmas.Bool.{and_parts, and_from, false_from_ne_true}
use Rattle.rulings.specs.Points.{Points, Part, Disjoint}
use Rattle.semantics.specs.Closure.{IsClosure, Stable}
use Rattle.semantics.specs.WellFounded.{Alternates, WellFounded}
use Rattle.semantics.proofs.Tests.{false_is_not_true}
use Rattle.semantics.proofs.Closures.{shrinks}
use Rattle.books.specs.declared.protest_book.ProtestBook.{ProtestBook}
use Rattle.books.specs.Entries.{avoids}
use Rattle.books.specs.Framework.{StableExtension, Defends, DefendsItself, GroundedExtension, framework_of}
use Rattle.books.specs.ProtestBook.{lodged, protesters, protest_meaning}
use Rattle.books.specs.Protests.{stands_use, stands_of, protests_lawful}
use Rattle.books.proofs.Conditions.{avoids_not}

module _ (b : ProtestBook) where
  -- an attack, in words
  attacks_use : (a c : ℕ) → (framework_of b).attacks a c ≡ true → (lodged b a ≡ true) × (lodged b c ≡ true) × (protesters b c a ≡ true)
  attacks_use a c h =
      let p = and_parts (lodged b a) _ h in
      let q = and_parts (lodged b c) _ p.1 in
      (p.0, q.0, q.1)

  attacks_of : (a c : ℕ) → lodged b a ≡ true → lodged b c ≡ true → protesters b c a ≡ true → (framework_of b).attacks a c ≡ true
  attacks_of a c la lc p = and_from _ _ la (and_from _ _ lc p)

  -- a lodged point that does not derive has a protester in y
  opposed : (y : Points) (a : ℕ) → lodged b a ≡ true → (protest_meaning b).derives y y a ≡ false → (c : ℕ) × (protesters b a c ≡ true) × (y c ≡ true)
  opposed y a l out = avoids_not (protesters b a) y (second (lodged b a) (avoids y (protesters b a)) l out)
    where
      second : (s t : Bool) → s ≡ true → s && t ≡ false → t ≡ false
      second true t e h = h
      second false t e h = false_is_not_true e

module _ (b : ProtestBook) (Y : Points) where
  stable_is_extension : Stable (protest_meaning b) Y → StableExtension (framework_of b) Y
  stable_is_extension s =
      record {
        arguments = λ a h. (exact a h).0;
        conflict_free = λ a c ha hc. false_from_ne_true ((framework_of b).attacks a c)
            (λ t. false_is_not_true (sym ((exact c hc).1 a (attacks_use b a c t).2) ∙ ha));
        attacks_the_rest = λ c l out.
            let w = avoids_not (protesters b c) Y (false_from_ne_true (avoids Y (protesters b c)) (λ t. false_is_not_true (sym out ∙ s.closed c (and_from _ _ l t)))) in
            (w.0, w.2, attacks_of b w.0 c (exact w.0 w.2).0 l w.1);
      }
    where
      -- what derives under (Y, Y) is closed under Y, since only y is asked; so Y is part of it
      exact : (a : ℕ) → Y a ≡ true → (lodged b a ≡ true) × Disjoint (protesters b a) Y
      exact a h = stands_use b Y Y a (s.least ((protest_meaning b).derives Y Y) (λ c q. q) a h)

  extension_is_stable : StableExtension (framework_of b) Y → Stable (protest_meaning b) Y
  extension_is_stable e =
      record {
        closed = λ a h. inside a (stands_use b Y Y a h) (Y a) refl;
        least = λ Z closed a h. closed a (stands_of b Z Y a (e.arguments a h) (unopposed a h));
      }
    where
      inside : (a : ℕ) → (lodged b a ≡ true) × Disjoint (protesters b a) Y → (t : Bool) → Y a ≡ t → Y a ≡ true
      inside a s true h = h
      inside a s false h =
          let w = e.attacks_the_rest a s.0 h in
          false_is_not_true (sym (s.1 w.0 (attacks_use b w.0 a w.2).2) ∙ w.1)

      unopposed : (a : ℕ) → Y a ≡ true → Disjoint (protesters b a) Y
      unopposed a h c p = false_from_ne_true (Y c)
          (λ hc. false_is_not_true (sym (e.conflict_free c a hc h) ∙ attacks_of b c a (e.arguments c hc) (e.arguments a h) p))

  pub stable_is_stable_extension : Stable (protest_meaning b) Y ↔ StableExtension (framework_of b) Y
  stable_is_stable_extension = (stable_is_extension, extension_is_stable)

module _ (b : ProtestBook) where
  -- only y is asked, so a closure has exactly the lodged points with no protester in y
  standing : (y X : Points) → IsClosure (protest_meaning b) y X → (a : ℕ) → X a ≡ true → (lodged b a ≡ true) × Disjoint (protesters b a) y
  standing y X c a h = stands_use b X y a (c.least ((protest_meaning b).derives X y) (λ d q. q) a h)

  -- a lodged point outside the closure has a protester in y
  struck : (y X : Points) → IsClosure (protest_meaning b) y X → (a : ℕ) → lodged b a ≡ true → X a ≡ false → (c : ℕ) × (protesters b a c ≡ true) × (y c ≡ true)
  struck y X c a l out = opposed b y a l (false_from_ne_true ((protest_meaning b).derives y y a) (λ h. false_is_not_true (sym out ∙ c.closed a h)))

  -- each of a pair of closures defends what it has
  defends : (S P : Points) → IsClosure (protest_meaning b) P S → IsClosure (protest_meaning b) S P → DefendsItself (framework_of b) S
  defends S P s p c = (defended, has_it)
    where
      defended : S c ≡ true → Defends (framework_of b) S c
      defended h = (
        (standing P S s c h).0,
        λ a t.
            let w = attacks_use b a c t in
            let d = struck S P p a w.0 ((standing P S s c h).1 a w.2) in
            (d.0, d.2, attacks_of b d.0 a (standing P S s d.0 d.2).0 w.0 d.1),
      )

      has_it : Defends (framework_of b) S c → S c ≡ true
      has_it (l, answer) = s.closed c (stands_of b S P c l (λ a q. false_from_ne_true (P a) (λ h.
          let stands = standing S P p a h in
          let d = answer a (attacks_of b a c stands.0 l q) in
          false_is_not_true (sym (stands.1 d.0 (attacks_use b d.0 a d.2).2) ∙ d.1))))

  -- a set that defends itself and its closure alternate
  alternating : (D : Points) → DefendsItself (framework_of b) D → Alternates (protest_meaning b) (protest_meaning b) D ((protest_meaning b).derives D D)
  alternating D fixed =
      record {
        sure = record { closed = closed; least = least };
        possible = closure;
      }
    where
      Q : Points
      Q = (protest_meaning b).derives D D

      closure : IsClosure (protest_meaning b) D Q
      closure = record { closed = λ a h. h; least = λ Z c a h. c a h }

      closed : Part ((protest_meaning b).derives D Q) D
      closed a h =
          let s = stands_use b D Q a h in
          (fixed a).1 (
            s.0,
            λ c t.
                let w = attacks_use b c a t in
                let d = opposed b D c w.0 (s.1 c w.2) in
                (d.0, d.2, attacks_of b d.0 c ((fixed d.0).0 d.2).0 w.0 d.1),
          )

      least : (Z : Points) → Part ((protest_meaning b).derives Z Q) Z → Part D Z
      least Z z a h =
          let s = (fixed a).0 h in
          z a (stands_of b Z Q a s.0 (λ c q. false_from_ne_true (Q c) (λ t.
          let w = stands_use b D D c t in
          let d = s.1 c (attacks_of b c a w.0 s.0 q) in
          false_is_not_true (sym (w.1 d.0 (attacks_use b d.0 c d.2).2) ∙ d.1))))

  -- what is sure is the grounded extension
  sure_is_grounded : (S P : Points) → WellFounded (protest_meaning b) S P → GroundedExtension (framework_of b) S
  sure_is_grounded S P f =
      record {
        fixpoint = defends S P f.alternates.sure f.alternates.possible;
        least = λ D fixed. (f.extreme D ((protest_meaning b).derives D D) (alternating D fixed)).0;
      }

  -- and the grounded extension, with its closure, is the well-founded model
  grounded_is_sure : (S : Points) → GroundedExtension (framework_of b) S → WellFounded (protest_meaning b) S ((protest_meaning b).derives S S)
  grounded_is_sure S g =
      record {
        alternates = pair;
        extreme = λ S' P' other.
            let less : Part S S' = g.least S' (defends S' P' other.sure other.possible) in
            (less, shrinks (protest_meaning b) (protests_lawful b) S S' _ P' less pair.possible other.possible);
      }
    where
      pair : Alternates (protest_meaning b) (protest_meaning b) S ((protest_meaning b).derives S S)
      pair = alternating S g.fixpoint

  pub grounded_exactly_if_sure : (S : Points) → GroundedExtension (framework_of b) S ↔ ((P : Points) × WellFounded (protest_meaning b) S P)
  grounded_exactly_if_sure S = (λ g. ((protest_meaning b).derives S S, grounded_is_sure S g), λ (P, f). sure_is_grounded S P f)
