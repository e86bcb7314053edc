-- Closures: that each set has one, that it has only one, and how closures compare.
use Rattle.std.proofs.Common.{◌≡◌, ℕ, ◌<◌, Bool, true, not, ◌&&◌, ◌||◌, sym, ap, ◌∙◌}
use Rattle.std.proofs.lemmas.Bool.{and_parts, and_from}
use mathlib.Core.Path.{fun_ext}
use Rattle.rulings.specs.Points.{Points, Part}
use Rattle.semantics.specs.Meaning.{Meaning, Lawful}
use Rattle.semantics.specs.Closure.{Closed, IsClosure}
use Rattle.semantics.proofs.Tests.{implies_of, implies_use, both_ways}
use Rattle.semantics.proofs.LeastFixpoint.{iterate, settles, within_prefixpoint}

-- two sets that are part of one another are equal
pub same_points : (x y : Points) → Part x y → Part y x → x ≡ y
same_points x y p q = fun_ext (λ a. both_ways (x a) (y a) (p a) (q a))

-- the points that derive from x, with y looked up on the negative side
abbrev pub step : Meaning → Points → Points → Points
step m y x = m.derives x y

module _ (m : Meaning) (l : Lawful m) (y : Points) where
  pub step_mono : (x z : Points) → Part x z → Part (step m y x) (step m y z)
  step_mono x z p a = l.more x z y a p

  pub step_inside : (x : Points) (a : ℕ) → step m y x a ≡ true → a < m.size
  step_inside x a = l.derives_inside x y a

  -- a turn at which nothing is new has come to the closure
  pub settled_is_closure : (k : ℕ) → Closed m y (iterate (step m y) k) → IsClosure m y (iterate (step m y) k)
  settled_is_closure k c =
      record {
        closed = c;
        least = λ Z z. within_prefixpoint m.size (step m y) step_mono step_inside Z z k;
      }

  -- as many turns as the book has points come to it
  pub closure_by_turns : IsClosure m y (iterate (step m y) m.size)
  closure_by_turns = settled_is_closure m.size (settles m.size (step m y) step_mono step_inside)

-- the closure, computed
unfoldable pub closure : Meaning → Points → Points
closure m y = iterate (step m y) m.size

pub is_closure : (m : Meaning) → Lawful m → (y : Points) → IsClosure m y (closure m y)
unfolding closure
is_closure m l y = closure_by_turns m l y

-- one closure is part of another where what derives under the one derives under the other
pub carries : (m w : Meaning) (y z X Z : Points) → IsClosure m y X → IsClosure w z Z → Part (m.derives Z y) (w.derives Z z) → Part X Z
carries m w y z X Z c d h = c.least Z (λ a q. d.closed a (h a q))

pub unique : (m : Meaning) (y X Z : Points) → IsClosure m y X → IsClosure m y Z → X ≡ Z
unique m y X Z c d =
    same_points X Z (carries m m y y X Z c d (λ a h. h)) (carries m m y y Z X d c (λ a h. h))

pub shrinks : (m : Meaning) → Lawful m → (y z X Z : Points) → Part y z → IsClosure m y X → IsClosure m z Z → Part Z X
shrinks m l y z X Z p c d = carries m m z y Z X d c (λ a. l.fewer X z y a p)

-- the laws more, fewer and local as one: only the points that a reads count, and there x may grow and y shrink
pub derives_mono : (m : Meaning) → Lawful m → (x x' y y' : Points) (a : ℕ) →
    ((b : ℕ) → m.reads a b ≡ true → (x b ≡ true → x' b ≡ true) × (y' b ≡ true → y b ≡ true)) →
    m.derives x y a ≡ true → m.derives x' y' a ≡ true
derives_mono m l x x' y y' a h d = only_read x' y' ∙ with_fewer
  where
    read : Points → Points
    read z b = m.reads a b && z b

    only_read : (z w : Points) → m.derives z w a ≡ m.derives (read z) (read w) a
    only_read z w = l.local z w (read z) (read w) a (λ b r. (sym (ap (λ (t : Bool). t && z b) r), sym (ap (λ (t : Bool). t && w b) r)))

    read_mono : (z w : Points) → ((b : ℕ) → m.reads a b ≡ true → z b ≡ true → w b ≡ true) → Part (read z) (read w)
    read_mono z w p b q = let r = and_parts _ _ q in and_from _ _ r.0 (p b r.0 r.1)

    with_more : m.derives (read x') (read y) a ≡ true
    with_more = l.more (read x) (read x') (read y) a (read_mono x x' (λ b r. (h b r).0)) (sym (only_read x y) ∙ d)

    with_fewer : m.derives (read x') (read y') a ≡ true
    with_fewer = l.fewer (read x') (read y) (read y') a (read_mono y' y (λ b r. (h b r).1)) with_more

-- every point of a closure derives from it
pub closure_supported : (m : Meaning) → Lawful m → (y X : Points) → IsClosure m y X → Part X (m.derives X y)
closure_supported m l y X c = c.least (m.derives X y) (λ a. l.more (m.derives X y) X y a c.closed)

pub closure_inside : (m : Meaning) → Lawful m → (y X : Points) → IsClosure m y X → (a : ℕ) → X a ≡ true → a < m.size
closure_inside m l y X c a h = l.derives_inside X y a (closure_supported m l y X c a h)

-- x, cut down inside the domain D to the points of z
abbrev pub cut : Points → Points → Points → Points
cut D z x a = x a && (not (D a) || z a)

module _ (D z x : Points) (a : ℕ) where
  pub cut_of : x a ≡ true → (D a ≡ true → z a ≡ true) → cut D z x a ≡ true
  cut_of h f = and_from _ _ h (implies_of _ _ f)

  pub cut_part : cut D z x a ≡ true → x a ≡ true
  cut_part h = (and_parts _ _ h).0

  pub cut_inside : D a ≡ true → cut D z x a ≡ true → z a ≡ true
  cut_inside d h = implies_use _ _ (and_parts _ _ h).1 d

-- The part of a closure inside a domain D is in Z, if every point of D is in Z that derives from a set W
-- which is part of the closure and inside D part of Z.
pub closure_least_inside : (m : Meaning) → Lawful m → (y X : Points) → IsClosure m y X → (D Z : Points) →
    ((W : Points) → Part W X → ((b : ℕ) → D b ≡ true → W b ≡ true → Z b ≡ true) →
    (a : ℕ) → D a ≡ true → m.derives W y a ≡ true → Z a ≡ true) →
    (a : ℕ) → D a ≡ true → X a ≡ true → Z a ≡ true
closure_least_inside m l y X c D Z h a d q = cut_inside D Z X a d (c.least W (λ b r. cut_of D Z X b (in_closure b r) (in_domain b r)) a q)
  where
    W : Points
    W = cut D Z X

    in_closure : Part (m.derives W y) X
    in_closure b r = c.closed b (l.more W X y b (cut_part D Z X) r)

    in_domain : (b : ℕ) → m.derives W y b ≡ true → D b ≡ true → Z b ≡ true
    in_domain b r e = h W (cut_part D Z X) (cut_inside D Z X) b e r
