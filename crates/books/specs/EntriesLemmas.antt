-- What an entry asks for, as facts, and that a list of entries means a lawful book.
use Rattle.std.specs.Prelude.{◌≡◌, ℕ, zero, suc, ◌<◌, ◌≤◌, Bool, true, not, ◌&&◌, ◌||◌, ◌⊎◌, List, refl}
use Rattle.std.proofs.Common.{sym, ap, subst, ◌∙◌, inl, inr, arith, eq-or-lt_of_le, le_of_suc-le-suc, not-suc-le-zero, eqb-true, eq-eqb}
use Rattle.rulings.specs.Points.{Points, Part, Disjoint}
use Rattle.rulings.specs.Rulings.{has}
use Rattle.rulings.proofs.Bytes.{has_below}
use Rattle.semantics.specs.Meaning.{Lawful, AgreeOnRead}
use Rattle.semantics.proofs.Tests.{both_ways, implies_of, implies_use}
use Rattle.books.specs.declared.entry.Entry.{Entry}
use Rattle.std.specs.List.{All, list_any}
use Rattle.std.proofs.lemmas.List.Folds.{Any-from_list_any, list_any-from_Any}
use Rattle.std.proofs.lemmas.Bool.{and_parts, and_from, or_left, or_right}
use Rattle.books.specs.Entries.{every_below, for_point, covers, avoids, fires, names, looks_at, by_entries}
use Rattle.books.specs.Tests.{nand_of, nand_use, contrapositive}
use Rattle.books.specs.Any.{any_implies}

-- what holds of every number below n, number by number
pub every_below_use : (n : ℕ) (test : ℕ → Bool) → every_below n test ≡ true → (b : ℕ) → b < n → test b ≡ true
unfolding every_below
every_below_use zero test h b l = absurd (not-suc-le-zero l)
every_below_use (suc n) test h b l = go (and_parts _ _ h) (every_below_use n test) (eq-or-lt_of_le (le_of_suc-le-suc l))
  where
    go : (test n ≡ true) × (every_below n test ≡ true) → (every_below n test ≡ true → (b : ℕ) → b < n → test b ≡ true) → (b ≡ n) ⊎ (b < n) → test b ≡ true
    go p ih (inl e) = subst (λ (k : ℕ). test k ≡ true) (sym e) p.0
    go p ih (inr q) = ih p.1 b q

every_below_of : (n : ℕ) (test : ℕ → Bool) → ((b : ℕ) → b < n → test b ≡ true) → every_below n test ≡ true
unfolding every_below
every_below_of zero test f = refl
every_below_of (suc n) test f = and_from _ _ (f n (omega arith)) (every_below_of n test (λ b l. f b (omega arith)))

-- the two tests as facts, of a set that has only points below 128
module _ (p : Points) (small : (b : ℕ) → p b ≡ true → b < 128) where
  pub covers_use : (x : Points) → covers x p ≡ true → Part p x
  covers_use x h b q = implies_use _ _ (every_below_use 128 (λ c. not (p c) || x c) h b (small b q)) q

  pub covers_of : (x : Points) → Part p x → covers x p ≡ true
  covers_of x h = every_below_of 128 (λ c. not (p c) || x c) (λ b l. implies_of _ _ (h b))

  pub avoids_use : (y : Points) → avoids y p ≡ true → Disjoint p y
  avoids_use y h b q = nand_use _ _ (every_below_use 128 (λ c. not (p c && y c)) h b (small b q)) q

  pub avoids_of : (y : Points) → Disjoint p y → avoids y p ≡ true
  avoids_of y h = every_below_of 128 (λ c. not (p c && y c)) (λ b l. nand_of _ _ (h b))

module _ (e : Entry) where
  -- an entry that fires, in words
  pub fires_use : (a : ℕ) (x y : Points) → fires a x y e ≡ true →
      (e.point ≡ a) × Part (has e.supporters) x × Disjoint (has e.strikers) y
  fires_use a x y h =
      let p = and_parts (for_point a e) (covers x (has e.supporters) && avoids y (has e.strikers)) h in
      let q = and_parts (covers x (has e.supporters)) (avoids y (has e.strikers)) p.1 in (
        eqb-true e.point a p.0,
        covers_use (has e.supporters) (has_below e.supporters) x q.0,
        avoids_use (has e.strikers) (has_below e.strikers) y q.1,
      )

  pub fires_of : (a : ℕ) (x y : Points) → e.point ≡ a → Part (has e.supporters) x → Disjoint (has e.strikers) y → fires a x y e ≡ true
  fires_of a x y s p d = and_from _ _ (eq-eqb e.point a s) (and_from _ _
      (covers_of (has e.supporters) (has_below e.supporters) x p)
      (avoids_of (has e.strikers) (has_below e.strikers) y d))

  -- only what the entry looks at matters
  pub fires_local : (a : ℕ) (x y x' y' : Points) → ((b : ℕ) → looks_at a b e ≡ true → (x b ≡ x' b) × (y b ≡ y' b)) →
      fires a x y e ≡ true → fires a x' y' e ≡ true
  fires_local a x y x' y' agree h =
      let f = fires_use a x y h in
      let here : for_point a e ≡ true = eq-eqb e.point a f.0 in
      fires_of a x' y' f.0
      (λ b p. sym (agree b (and_from _ _ here (or_left _ _ p))).0 ∙ f.1 b p)
      (λ b p. sym (agree b (and_from _ _ here (or_right (has e.supporters b) (has e.strikers b) p))).1 ∙ f.2 b p)

-- entries for points below n that name only points below n mean a lawful book
pub entries_lawful : (n : ℕ) (es : List Entry) → 1 ≤ n → n ≤ 128 →
    All (λ e. e.point < n) es → All (λ e. (b : ℕ) → names e b ≡ true → b < n) es → Lawful (by_entries n es)
entries_lawful n es some few heads bodies =
    record {
      some_point = some;
      few_points = few;
      more = λ x x' y a p. any_implies (fires a x y) (fires a x' y)
          (λ e h. let f = fires_use e a x y h in fires_of e a x' y f.0 (λ b q. p b (f.1 b q)) f.2) es;
      fewer = λ x y y' a p. any_implies (fires a x y) (fires a x y')
          (λ e h. let f = fires_use e a x y h in fires_of e a x y' f.0 f.1 (λ b q. contrapositive (y b) (y' b) (p b) (f.2 b q))) es;
      local = λ x y x' y' a agree.
          both_ways (list_any (fires a x y) es) (list_any (fires a x' y') es)
          (through a x y x' y' agree)
          (through a x' y' x y (λ b q. let s = agree b q in (sym s.0, sym s.1)));
      derives_inside = λ x y a h. entered a (any_implies (fires a x y) (for_point a) (λ e f. (and_parts (for_point a e) _ f).0) es h);
      reads_inside = λ a b h. (entered a (any_implies (looks_at a b) (for_point a) (λ e f. (and_parts (for_point a e) _ f).0) es h), read a b h);
    }
  where
    entered : (a : ℕ) → list_any (for_point a) es ≡ true → a < n
    entered a h =
        let (k, e, low, at, f) = Any-from_list_any (for_point a) es h in
        subst (λ (c : ℕ). c < n) (ap (λ (e : Entry). e.point) at ∙ eqb-true e.point a f) (heads k e low)

    read : (a b : ℕ) → list_any (looks_at a b) es ≡ true → b < n
    read a b h =
        let (k, e, low, at, f) = Any-from_list_any (looks_at a b) es h in
        bodies k e low b (subst (λ (e : Entry). names e b ≡ true) (sym at) (and_parts (for_point a e) _ f).1)

    through : (a : ℕ) (x y x' y' : Points) → AgreeOnRead (by_entries n es) a x y x' y' → list_any (fires a x y) es ≡ true → list_any (fires a x' y') es ≡ true
    through a x y x' y' agree h =
        let (k, e, low, at, f) = Any-from_list_any (fires a x y) es h in
        list_any-from_Any (fires a x' y') es (
          k,
          e,
          low,
          at,
          fires_local e a x y x' y' (λ b q. agree b (list_any-from_Any (looks_at a b) es (k, e, low, at, q))) f,
        )
