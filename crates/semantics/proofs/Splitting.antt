-- Closures and stable rulings, a chapter at a time.
use Rattle.std.proofs.Common.{◌≡◌, ℕ, zero, suc, ◌<◌, ◌≤◌, true, eqb, ◌⊎◌, refl, subst, inl, inr, not-suc-le-zero, eq-or-lt_of_le, arith, ltb-true, lt-ltb, eq-eqb, eqb-true}
use Rattle.std.proofs.lemmas.Bool.{and_parts, and_from, or_cases, or_left, or_right}
use Rattle.rulings.specs.Points.{Points, Part, union}
use Rattle.semantics.specs.Meaning.{Meaning, Lawful}
use Rattle.semantics.specs.Closure.{Closed, IsClosure}
use Rattle.semantics.specs.Chapters.{in_chapter, below_chapter, Fit, chapter, ChapterLawful, ClosureSplits, StableSplits}
use Rattle.semantics.proofs.Restricting.{restricted_lawful}
use Rattle.semantics.proofs.Closures.{derives_mono, closure_least_inside}

-- the points of chapter k
abbrev pub of_chapter : (ℕ → ℕ) → ℕ → Points
of_chapter ch k a = eqb (ch a) k

pub own_chapter : (ch : ℕ → ℕ) (a : ℕ) → of_chapter ch (ch a) a ≡ true
own_chapter ch a = eq-eqb (ch a) (ch a) refl

-- every point of x in chapter k is one of z
abbrev pub PartIn : (ℕ → ℕ) → ℕ → Points → Points → Type 0
PartIn ch k x z = (b : ℕ) → of_chapter ch k b ≡ true → x b ≡ true → z b ≡ true

-- every point of x in the chapters lower than k is one of z
abbrev pub PartBelow : (ℕ → ℕ) → ℕ → Points → Points → Type 0
PartBelow ch k x z = (b : ℕ) → ch b < k → x b ≡ true → z b ≡ true

-- a union is within a set that both parts are within
union_within : (x y z : Points) → Part x z → Part y z → Part (union x y) z
union_within x y z p q a h = go (or_cases (x a) (y a) h)
  where
    go : (x a ≡ true) ⊎ (y a ≡ true) → z a ≡ true
    go (inl e) = p a e
    go (inr e) = q a e

module _ (ch : ℕ → ℕ) (k : ℕ) where
  pub in_chapter_of : (x : Points) → PartIn ch k x (in_chapter ch k x)
  in_chapter_of x b e h = and_from _ _ e h

  pub in_chapter_within : (x z : Points) → PartIn ch k x z → Part (in_chapter ch k x) z
  in_chapter_within x z p b h = let q = and_parts _ _ h in p b q.0 q.1

  pub in_chapter_part : (x : Points) → Part (in_chapter ch k x) x
  in_chapter_part x = in_chapter_within x x (λ b _ h. h)

  pub below_chapter_of : (x : Points) → PartBelow ch k x (below_chapter ch k x)
  below_chapter_of x b e h = and_from _ _ (lt-ltb (ch b) k e) h

  pub below_chapter_within : (x z : Points) → PartBelow ch k x z → Part (below_chapter ch k x) z
  below_chapter_within x z p b h = let q = and_parts _ _ h in p b (ltb-true (ch b) k q.0) q.1

  -- what chapter k looks points up in: u for the lower chapters, z for its own
  abbrev pub patch : Points → Points → Points
  patch u z = union (below_chapter ch k u) (in_chapter ch k z)

  pub patch_of : (x u z : Points) → PartBelow ch k x u → PartIn ch k x z → (b : ℕ) → ch b ≤ k → x b ≡ true → patch u z b ≡ true
  patch_of x u z p q b n h = go (eq-or-lt_of_le n)
    where
      go : (ch b ≡ k) ⊎ (ch b < k) → patch u z b ≡ true
      go (inl e) = let i = eq-eqb (ch b) k e in or_right _ _ (in_chapter_of z b i (q b i h))
      go (inr e) = or_left _ _ (below_chapter_of u b e (p b e h))

  pub patch_within : (u z x : Points) → PartBelow ch k u x → PartIn ch k z x → Part (patch u z) x
  patch_within u z x p q = union_within (below_chapter ch k u) (in_chapter ch k z) x (below_chapter_within u x p) (in_chapter_within z x q)

-- a chapter keeps the laws of a book
pub chapter_lawful : ChapterLawful
chapter_lawful m l ch k U V = restricted_lawful m l (of_chapter ch k) U V

-- only points of chapter k derive in it
pub derived_of_chapter : (m : Meaning) (ch : ℕ → ℕ) (k : ℕ) (U V x y : Points) → Part ((chapter m ch k U V).derives x y) (of_chapter ch k)
derived_of_chapter m ch k U V x y a h = (and_parts _ _ h).0

-- chapter k, under the parts of u and v in the lower chapters
abbrev pub chapter_under : Meaning → (ℕ → ℕ) → ℕ → Points → Points → Meaning
chapter_under m ch k u v = chapter m ch k (below_chapter ch k u) (below_chapter ch k v)

-- the part of X in chapter k is the closure of the part of y there, under the lower parts
abbrev pub IsClosureIn : Meaning → (ℕ → ℕ) → ℕ → Points → Points → Type 0
IsClosureIn m ch k y X = IsClosure (chapter_under m ch k X y) (in_chapter ch k y) (in_chapter ch k X)

module _ (m : Meaning) (l : Lawful m) (ch : ℕ → ℕ) (fit : Fit m ch) (k : ℕ) where
  reads_up_to : (a b : ℕ) → of_chapter ch k a ≡ true → m.reads a b ≡ true → ch b ≤ k
  reads_up_to a b e r = subst (λ (n : ℕ). ch b ≤ n) (eqb-true (ch a) k e) (fit a b r)

  -- a point of the chapter that derives in the book derives in the chapter
  pub derives_in_chapter : (x y u v z w : Points) → PartBelow ch k x u → PartIn ch k x z → PartBelow ch k v y → PartIn ch k w y →
      (a : ℕ) → of_chapter ch k a ≡ true → m.derives x y a ≡ true → (chapter_under m ch k u v).derives z w a ≡ true
  derives_in_chapter x y u v z w xu xz vy wy a e h =
      and_from _ _ e (derives_mono m l x (patch ch k u z) y (patch ch k v w) a compared h)
    where
      compared : (b : ℕ) → m.reads a b ≡ true → (x b ≡ true → patch ch k u z b ≡ true) × (patch ch k v w b ≡ true → y b ≡ true)
      compared b r = (patch_of ch k x u z xu xz b (reads_up_to a b e r), patch_within ch k v w y vy wy b)

  -- a point that derives in the chapter derives in the book
  pub derives_in_book : (u v z w x y : Points) → PartBelow ch k u x → PartIn ch k z x → PartBelow ch k y v → PartIn ch k y w →
      (a : ℕ) → (chapter_under m ch k u v).derives z w a ≡ true → m.derives x y a ≡ true
  derives_in_book u v z w x y ux zx yv yw a h =
      derives_mono m l (patch ch k u z) x (patch ch k v w) y a compared (and_parts _ _ h).1
    where
      compared : (b : ℕ) → m.reads a b ≡ true → (patch ch k u z b ≡ true → x b ≡ true) × (y b ≡ true → patch ch k v w b ≡ true)
      compared b r =
          (patch_within ch k u z x ux zx b, patch_of ch k y v w yv yw b (reads_up_to a b (and_parts _ _ h).0 r))

  -- a closure in the book is one in every chapter
  pub closure_restricts : (y X : Points) → IsClosure m y X → IsClosureIn m ch k y X
  closure_restricts y X c =
      record {
        closed = λ a h. in_chapter_of ch k X a (derived_of_chapter m ch k (below_chapter ch k X) (below_chapter ch k y) Xk yk a h) (c.closed a (from_chapter a h));
        least = λ Z z. in_chapter_within ch k X Z (closure_least_inside m l y X c (of_chapter ch k) Z (λ W p q a e h. z a (to_chapter Z W p q a e h)));
      }
    where
      Xk : Points
      Xk = in_chapter ch k X

      yk : Points
      yk = in_chapter ch k y

      from_chapter : Part ((chapter_under m ch k X y).derives Xk yk) (m.derives X y)
      from_chapter = derives_in_book X y Xk yk X y (λ b _ h. h) (λ b _. in_chapter_part ch k X b) (λ b _ h. h) (in_chapter_of ch k y)

      to_chapter : (Z W : Points) → Part W X → PartIn ch k W Z → PartIn ch k (m.derives W y) ((chapter_under m ch k X y).derives Z yk)
      to_chapter Z W p q = derives_in_chapter W y X y Z yk (λ b _. p b) q (λ b _ h. h) (λ b _. in_chapter_part ch k y b)

-- induction over the chapters, upward
pub chapter_induction : (ch : ℕ → ℕ) (Q : ℕ → Type 0) → ((a : ℕ) → ((b : ℕ) → ch b < ch a → Q b) → Q a) → (a : ℕ) → Q a
chapter_induction ch Q step a = below (suc (ch a)) a (omega arith)
  where
    below : (n : ℕ) (b : ℕ) → ch b < n → Q b
    below zero b h = absurd (not-suc-le-zero h)
    below (suc n) b h = step b (λ d e. below n d (omega arith))

module _ (m : Meaning) (l : Lawful m) (ch : ℕ → ℕ) (fit : Fit m ch) (y X : Points) (c : (a : ℕ) → IsClosureIn m ch (ch a) y X) where
  joined_closed : Closed m y X
  joined_closed a h = in_chapter_part ch k X a ((c a).closed a (to_chapter a (own_chapter ch a) h))
    where
      k : ℕ
      k = ch a

      to_chapter : PartIn ch k (m.derives X y) ((chapter_under m ch k X y).derives (in_chapter ch k X) (in_chapter ch k y))
      to_chapter =
          derives_in_chapter m l ch fit k X y X y (in_chapter ch k X) (in_chapter ch k y)
          (λ b _ q. q) (in_chapter_of ch k X) (λ b _ q. q) (λ b _. in_chapter_part ch k y b)

  -- a point of X is in a closed set Z if the points of X in the lower chapters are
  joined_least_at : (Z : Points) → Closed m y Z → (a : ℕ) → PartBelow ch (ch a) X Z → X a ≡ true → Z a ≡ true
  joined_least_at Z z a lower h = (c a).least Z (λ b q. z b (from_chapter b q)) a (in_chapter_of ch k X a (own_chapter ch a) h)
    where
      k : ℕ
      k = ch a

      from_chapter : Part ((chapter_under m ch k X y).derives Z (in_chapter ch k y)) (m.derives Z y)
      from_chapter = derives_in_book m l ch fit k X y Z (in_chapter ch k y) Z y lower (λ b _ q. q) (λ b _ q. q) (in_chapter_of ch k y)

  -- the closures in the chapters make up the closure in the book
  pub closure_joins : IsClosure m y X
  closure_joins =
      record {
        closed = joined_closed;
        least = λ Z z. chapter_induction ch (λ a. X a ≡ true → Z a ≡ true) (joined_least_at Z z);
      }

pub closure_splits : ClosureSplits
closure_splits m ch l fit few y X =
    (λ c k _. closure_restricts m l ch fit k y X c, λ c. closure_joins m l ch fit y X (λ a. c (ch a) (few a)))

-- a stable ruling is the closure of itself
pub stable_splits : StableSplits
stable_splits m ch l fit few Y = closure_splits m ch l fit few Y Y
