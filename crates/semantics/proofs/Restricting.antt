-- A restricted book is a book, and depends only on which points of the book it is restricted to.
use Rattle.std.proofs.Common.{◌≡◌, ℕ, ◌<◌, Bool, true, false, ◌&&◌, ◌||◌, ◌⊎◌, sym, refl, ap, subst, inl, inr}
use Rattle.std.proofs.lemmas.Bool.{and_parts, and_from, or_cases, or_left, or_right}
use mathlib.Core.Path.{fun_ext}
use Rattle.rulings.specs.Points.{Points, Part, union}
use Rattle.semantics.specs.Meaning.{Meaning, Lawful, AgreeOnRead}
use Rattle.semantics.specs.Closure.{IsClosure}
use Rattle.semantics.specs.Chapters.{restricted}
use Rattle.semantics.specs.WellFounded.{LeastPair}
use Rattle.semantics.proofs.Tests.{both_ways}

-- restricted to the points of D, a book is looked up in W and in x's part in D
module _ (D : Points) where
  abbrev under : Points → Points → Points
  under W x = union W (λ b. D b && x b)

  under_mono : (W x x' : Points) → Part x x' → Part (under W x) (under W x')
  under_mono W x x' p b h = go (or_cases (W b) (D b && x b) h)
    where
      go : (W b ≡ true) ⊎ (D b && x b ≡ true) → under W x' b ≡ true
      go (inl e) = or_left _ _ e
      go (inr e) = let q = and_parts (D b) (x b) e in or_right _ _ (and_from _ _ q.0 (p b q.1))

  same_under : (W x x' : Points) (b : ℕ) → x b ≡ x' b → under W x b ≡ under W x' b
  same_under W x x' b = ap (λ (t : Bool). W b || (D b && t))

-- a restricted book keeps the laws of a book
pub restricted_lawful : (m : Meaning) → Lawful m → (D U V : Points) → Lawful (restricted m D U V)
restricted_lawful m l D U V =
    record {
      some_point = l.some_point;
      few_points = l.few_points;
      more = λ x x' y a p h.
          let q = and_parts _ _ h in
          and_from _ _ q.0 (l.more (under D U x) (under D U x') (under D V y) a (under_mono D U x x' p) q.1);
      fewer = λ x y y' a p h.
          let q = and_parts _ _ h in
          and_from _ _ q.0 (l.fewer (under D U x) (under D V y) (under D V y') a (under_mono D V y' y p) q.1);
      local = λ x y x' y' a h. local x y x' y' a h (D a) refl;
      derives_inside = λ x y a h. l.derives_inside (under D U x) (under D V y) a (and_parts _ _ h).1;
      reads_inside = λ a b h. l.reads_inside a b (and_parts _ _ h).1;
    }
  where
    local : (x y x' y' : Points) (a : ℕ) → AgreeOnRead (restricted m D U V) a x y x' y' → (t : Bool) → D a ≡ t →
        (restricted m D U V).derives x y a ≡ (restricted m D U V).derives x' y' a
    local x y x' y' a h true e =
        ap (λ (t : Bool). D a && t) (l.local (under D U x) (under D V y) (under D U x') (under D V y') a agree)
      where
        agree : AgreeOnRead m a (under D U x) (under D V y) (under D U x') (under D V y')
        agree b r = let q = h b (and_from _ _ e r) in (same_under D U x x' b q.0, same_under D V y y' b q.1)
    local x y x' y' a h false e = rw e refl

-- two meanings that derive alike have the same closures and the same least pairs
abbrev pub DeriveAlike : Meaning → Meaning → Type 0
DeriveAlike m w = m.derives ≡ w.derives

pub same_closure : (m w : Meaning) → DeriveAlike m w → (y X : Points) → IsClosure m y X → IsClosure w y X
same_closure m w e y X c =
    record {
      closed = subst (λ (d : Points → Points → Points). Part (d X y) X) e c.closed;
      least = λ Z z. c.least Z (subst (λ (d : Points → Points → Points). Part (d Z y) Z) (sym e) z);
    }

pub same_least_pair : (m m' w w' : Meaning) → DeriveAlike m m' → DeriveAlike w w' → (S P : Points) → LeastPair m w S P → LeastPair m' w' S P
same_least_pair m m' w w' d e S P f =
    record {
      alternates = record { sure = same_closure m m' d P S f.alternates.sure; possible = same_closure w w' e S P f.alternates.possible };
      extreme = λ S' P' t.
          f.extreme S' P' (record { sure = same_closure m' m (sym d) P' S' t.sure; possible = same_closure w' w (sym e) S' P' t.possible });
    }

-- restricted to sets that agree below the size, a book derives alike
pub restricted_alike : (m : Meaning) → Lawful m → (D D' U V : Points) → ((a : ℕ) → a < m.size → D a ≡ D' a) → DeriveAlike (restricted m D U V) (restricted m D' U V)
restricted_alike m l D D' U V agree = fun_ext (λ x. fun_ext (λ y. fun_ext (λ a.
    both_ways ((restricted m D U V).derives x y a) ((restricted m D' U V).derives x y a)
    (across D D' agree x y a) (across D' D (λ b h. sym (agree b h)) x y a))))
  where
    across : (E E' : Points) → ((a : ℕ) → a < m.size → E a ≡ E' a) → (x y : Points) (a : ℕ) → (restricted m E U V).derives x y a ≡ true → (restricted m E' U V).derives x y a ≡ true
    across E E' same x y a h =
        let p = and_parts (E a) _ h in
        let joined : (F u z : Points) → Points = λ F u z. union u (λ b. F b && z b) in
        let inside : a < m.size = l.derives_inside (joined E U x) (joined E V y) a p.1 in
        let put : (u z : Points) (b : ℕ) → b < m.size → joined E u z b ≡ joined E' u z b = λ u z b s. ap (λ (t : Bool). u b || (t && z b)) (same b s) in
        and_from _ _ (subst (λ (t : Bool). t ≡ true) (same a inside) p.0)
        (subst (λ (t : Bool). t ≡ true)
        (l.local (joined E U x) (joined E V y) (joined E' U x) (joined E' V y) a (λ b r. let s = (l.reads_inside a b r).1 in (put U x b s, put V y b s)))
        p.1)
