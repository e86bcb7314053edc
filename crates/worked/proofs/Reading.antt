-- Readings by computing.
use Rattle.std.proofs.Common.{◌≡◌, ℕ, ◌<◌, Bool, true, ◌&&◌, List, [], ◌∷◌, Ok, Err, sym, refl, subst, subst₂}
use Rattle.std.proofs.lemmas.Bool.{and_parts}
use Rattle.rulings.specs.Points.{Points, listed}
use Rattle.rulings.specs.Rulings.{has}
use Rattle.semantics.specs.Meaning.{Meaning, Lawful}
use Rattle.semantics.specs.Chapters.{Fit, Sixteen}
use Rattle.semantics.specs.WellFounded.{WellFounded, PartRead}
use Rattle.semantics.proofs.Tests.{false_is_not_true}
use Rattle.semantics.proofs.Alternating.{WithinPrefixpoints, within_prefixpoints_step, least_pair_of, least_pair_unique}
use Rattle.semantics.proofs.SplitReading.{well_founded_splits}
use Rattle.books.specs.Promise.{Outcome}
use Rattle.chapters.proofs.Upward.{fitting}
use Rattle.marker.specs.Reading.{ReadInto}
use Rattle.worked.specs.Answers.{GivesReading}
use Rattle.worked.proofs.Checks.{within, within_use, closes, closes_use, fits, fits_use}

-- P is the closure of S
abbrev pub closes_to : Meaning → List ℕ → List ℕ → Bool
closes_to m S P = within m.size P && closes m (listed S) (listed P)

-- turns from S: what is possible, then what is sure
abbrev pub climbs : Meaning → List ℕ → List (List ℕ × List ℕ) → Bool
climbs m S [] = true
climbs m S (t ∷ ts) = closes_to m S t.0 && (closes_to m t.0 t.1 && climbs m t.1 ts)

abbrev pub climbed : List ℕ → List (List ℕ × List ℕ) → List ℕ
climbed S [] = S
climbed S (t ∷ ts) = climbed t.1 ts

module _ (m : Meaning) (l : Lawful m) where
  climbs_use : (S : List ℕ) (ts : List (List ℕ × List ℕ)) → WithinPrefixpoints m m (listed S) → climbs m S ts ≡ true → WithinPrefixpoints m m (listed (climbed S ts))
  climbs_use S [] w h = w
  climbs_use S (t ∷ ts) w h =
      let p = and_parts (closes_to m S t.0) _ h in
      let q = and_parts (closes_to m t.0 t.1) _ p.1 in
      let c = and_parts (within m.size t.0) _ p.0 in
      let d = and_parts (within m.size t.1) _ q.0 in
      climbs_use t.1 ts
      (within_prefixpoints_step m m l l (listed S) (listed t.0) (listed t.1) w
      (closes_use m l (listed S) (listed t.0) (within_use m.size t.0 c.0) c.1)
      (closes_use m l (listed t.0) (listed t.1) (within_use m.size t.1 d.0) d.1))
      q.1

module _ (m : Meaning) (ch : ℕ → ℕ) (turns : List (List ℕ × List ℕ)) (possible : List ℕ) where
  -- the turns from nothing come to the sure points, and the pair of these and the possible points alternates
  abbrev pub read_check : Bool
  read_check =
      fits m ch && (climbs m [] turns && (closes_to m (climbed [] turns) possible && closes_to m possible (climbed [] turns)))

  pub reads : Lawful m → Sixteen ch → read_check ≡ true → GivesReading m ch (climbed [] turns) possible
  unfolding GivesReading
  reads l few h s p s' p' r = (only r, there)
    where
      sure : List ℕ
      sure = climbed [] turns

      Said : Points → Points → Type 0
      Said S P = Fit m ch × WellFounded m S P × ((k : ℕ) → k < 16 → PartRead m ch S P k)

      fitted : (fits m ch ≡ true) × (climbs m [] turns && (closes_to m sure possible && closes_to m possible sure) ≡ true)
      fitted = and_parts (fits m ch) _ h

      climbing : (climbs m [] turns ≡ true) × (closes_to m sure possible && closes_to m possible sure ≡ true)
      climbing = and_parts (climbs m [] turns) _ fitted.1

      pair : (closes_to m sure possible ≡ true) × (closes_to m possible sure ≡ true)
      pair = and_parts (closes_to m sure possible) _ climbing.1

      to_possible : (within m.size possible ≡ true) × (closes m (listed sure) (listed possible) ≡ true)
      to_possible = and_parts (within m.size possible) _ pair.0

      to_sure : (within m.size sure ≡ true) × (closes m (listed possible) (listed sure) ≡ true)
      to_sure = and_parts (within m.size sure) _ pair.1

      founded : WellFounded m (listed sure) (listed possible)
      founded =
          least_pair_of m m l l (listed sure) (listed possible)
          (record {
            sure = closes_use m l (listed possible) (listed sure) (within_use m.size sure to_sure.0) to_sure.1;
            possible = closes_use m l (listed sure) (listed possible) (within_use m.size possible to_possible.0) to_possible.1;
          })
          (climbs_use m l [] turns (λ Z Q q c a e. false_is_not_true e) climbing.0)

      said : Said (listed sure) (listed possible)
      said =
          let fit = fits_use m l ch fitted.0 in
          (fit, founded, (well_founded_splits m ch l fit few (listed sure) (listed possible)).0 founded)

      only : (o : Outcome) → ReadInto m ch o s p s' p' → (o ≡ Ok tt) × (has s' ≡ listed sure) × (has p' ≡ listed possible)
      only (Err f) (u, _, _) = fitting m ch f said.0 u
      only (Ok tt) (_, w, _) =
          let same = least_pair_unique m m (has s') (has p') (listed sure) (listed possible) w founded in
          (refl, same.0, same.1)

      there : (r ≡ Ok tt) × (has s' ≡ listed sure) × (has p' ≡ listed possible) → ReadInto m ch r s p s' p'
      there (e, is_sure, is_possible) =
          subst (λ (o : Outcome). ReadInto m ch o s p s' p') (sym e) (subst₂ Said (sym is_sure) (sym is_possible) said)
