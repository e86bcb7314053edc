-- What written books mean, by lists of points.
use Rattle.std.specs.List.{list_all, list_any, AllZip}
use Rattle.std.proofs.Common.{◌≡◌, ℕ, ◌<◌, Bool, true, false, not, ◌&&◌, ◌||◌, eqb, ◌⊎◌, List, [], ◌∷◌, sym, refl, ap, ◌∙◌, subst, ap₂, inl, inr, arith, eq-eqb, eqb-true}
use Rattle.std.proofs.lemmas.Bool.{not-true, and_parts, and_from, or_cases, or_left, or_right}
use mathlib.Core.Path.{fun_ext}
use Rattle.rulings.specs.Points.{Points, Part, Disjoint, listed}
use Rattle.rulings.specs.Rulings.{has}
use Rattle.semantics.specs.Meaning.{Meaning, Lawful}
use Rattle.semantics.proofs.Tests.{false_is_not_true, both_ways}
use Rattle.books.specs.declared.entry.Entry.{Entry}
use Rattle.books.specs.declared.rule_book.RuleBook.{RuleBook}
use Rattle.books.specs.declared.protest_book.ProtestBook.{ProtestBook}
use Rattle.books.specs.Entries.{covers, avoids, fires, looks_at}
use Rattle.books.specs.RuleBook.{entries, meaning_of}
use Rattle.books.specs.ProtestBook.{protesters, protest_meaning}
use Rattle.books.specs.Tests.{nand_of, nand_use}
use Rattle.rulings.proofs.Bytes.{has_below}
use Rattle.books.specs.EntriesLemmas.{covers_use, covers_of, avoids_use, avoids_of, entries_lawful}
use Rattle.books.specs.Protests.{protests_lawful}
use Rattle.books.specs.Lines.{Line}
use Rattle.worked.specs.Books.{Is, Rules, protested, Protests}
use Rattle.worked.proofs.Checks.{all_listed, listed_all}

-- the line is for point a, and a derives by it under (x, y)
abbrev pub line_fires : ℕ → Points → Points → Line → Bool
line_fires a x y l = eqb l.point a && (list_all x l.supporters && list_all (λ b. not (y b)) l.strikers)

abbrev pub line_looks_at : ℕ → ℕ → Line → Bool
line_looks_at a b l = eqb l.point a && (listed l.supporters b || listed l.strikers b)

-- what the lines mean
abbrev pub by_lines : ℕ → List Line → Meaning
by_lines n ls = record { size = n; derives = λ x y a. list_any (line_fires a x y) ls; reads = λ a b. list_any (line_looks_at a b) ls }

module _ (p : Points) (small : (b : ℕ) → p b ≡ true → b < 128) (ps : List ℕ) (is : p ≡ listed ps) where
  covers_all : (x : Points) → covers x p ≡ list_all x ps
  covers_all x =
      both_ways (covers x p) (list_all x ps)
      (λ h. listed_all x ps (subst (λ (q : Points). Part q x) is (covers_use p small x h)))
      (λ h. covers_of p small x (subst (λ (q : Points). Part q x) (sym is) (all_listed x ps h)))

  avoids_all : (y : Points) → avoids y p ≡ list_all (λ b. not (y b)) ps
  avoids_all y =
      both_ways (avoids y p) (list_all (λ b. not (y b)) ps)
      (λ h. listed_all (λ b. not (y b)) ps (λ b q. ap not (avoids_use p small y h b (ap (λ (z : Points). z b) is ∙ q))))
      (λ h. avoids_of p small y (λ b q. not-true (y b) (all_listed (λ c. not (y c)) ps h b (sym (ap (λ (z : Points). z b) is) ∙ q))))

fires_is : (a : ℕ) (x y : Points) (e : Entry) (l : Line) → Is e l → fires a x y e ≡ line_fires a x y l
fires_is a x y e l is =
    ap₂ ◌&&◌ (ap (λ (c : ℕ). eqb c a) is.point)
    (ap₂ ◌&&◌ (covers_all (has e.supporters) (has_below e.supporters) l.supporters is.supporters x)
    (avoids_all (has e.strikers) (has_below e.strikers) l.strikers is.strikers y))

looks_is : (a b : ℕ) (e : Entry) (l : Line) → Is e l → looks_at a b e ≡ line_looks_at a b l
looks_is a b e l is =
    ap₂ ◌&&◌ (ap (λ (c : ℕ). eqb c a) is.point)
    (ap₂ ◌||◌ (ap (λ (z : Points). z b) is.supporters) (ap (λ (z : Points). z b) is.strikers))

any_are : (f : Entry → Bool) (g : Line → Bool) → ((e : Entry) (l : Line) → Is e l → f e ≡ g l) →
    (es : List Entry) (ls : List Line) → AllZip Is es ls → list_any f es ≡ list_any g ls
any_are f g h [] [] w = refl
any_are f g h [] (l ∷ ls) w = absurd w
any_are f g h (e ∷ es) [] w = absurd w
any_are f g h (e ∷ es) (l ∷ ls) w = ap₂ ◌||◌ (h e l w.0) (any_are f g h es ls w.1)

rules_mean : (n : ℕ) (ls : List Line) (b : RuleBook) → Rules n ls b → meaning_of b ≡ by_lines n ls
rules_mean n ls b r = λ i. record {
  size = r.sized i;
  derives = fun_ext (λ x. fun_ext (λ y. fun_ext (λ a. any_are (fires a x y) (line_fires a x y) (fires_is a x y) (entries b) ls r.written))) i;
  reads = fun_ext (λ a. fun_ext (λ c. any_are (looks_at a c) (line_looks_at a c) (looks_is a c) (entries b) ls r.written)) i;
}

-- what holds of the meaning by lines holds of the books
pub of_rules : (n : ℕ) (ls : List Line) (So : Meaning → Type 0) → (Lawful (by_lines n ls) → So (by_lines n ls)) → (b : RuleBook) → Rules n ls b → So (meaning_of b)
of_rules n ls So h b r =
    let e = rules_mean n ls b r in
    subst So (sym e) (h (subst Lawful e (entries_lawful b.size (entries b) b.least b.most b.heads b.bodies)))

-- ---- protests

-- none of the protesters of a is in y
abbrev pub unprotested : List (ℕ × ℕ) → Points → ℕ → Bool
unprotested pairs y a = list_all (λ p. not (eqb a p.1 && y p.0)) pairs

abbrev pub by_protests : ℕ → List ℕ → List (ℕ × ℕ) → Meaning
by_protests n points pairs =
    record { size = n; derives = λ x y a. listed points a && unprotested pairs y a; reads = λ a c. listed points a && protested pairs a c }

unprotested_use : (pairs : List (ℕ × ℕ)) (y : Points) (a : ℕ) → unprotested pairs y a ≡ true → Disjoint (protested pairs a) y
unprotested_use [] y a h c q = false_is_not_true q
unprotested_use (p ∷ ps) y a h c q = go (and_parts _ _ h) (or_cases (eqb c p.0 && eqb a p.1) (protested ps a c) q) (unprotested_use ps y a)
  where
    go : (not (eqb a p.1 && y p.0) ≡ true) × (unprotested ps y a ≡ true) → (eqb c p.0 && eqb a p.1 ≡ true) ⊎ (protested ps a c ≡ true) →
        (unprotested ps y a ≡ true → Disjoint (protested ps a) y) → y c ≡ false
    go r (inl e) ih =
        let s = and_parts (eqb c p.0) (eqb a p.1) e in
        ap y (eqb-true c p.0 s.0) ∙ nand_use (eqb a p.1) (y p.0) r.0 s.1
    go r (inr e) ih = ih r.1 c e

unprotested_of : (pairs : List (ℕ × ℕ)) (y : Points) (a : ℕ) → Disjoint (protested pairs a) y → unprotested pairs y a ≡ true
unprotested_of [] y a h = refl
unprotested_of (p ∷ ps) y a h =
    and_from _ _
    (nand_of (eqb a p.1) (y p.0) (λ e. h p.0 (or_left _ _ (and_from _ _ (eq-eqb p.0 p.0 refl) e))))
    (unprotested_of ps y a (λ c q. h c (or_right (eqb c p.0 && eqb a p.1) _ q)))

protests_mean : (n : ℕ) (points : List ℕ) (pairs : List (ℕ × ℕ)) (b : ProtestBook) → Protests n points pairs b → protest_meaning b ≡ by_protests n points pairs
protests_mean n points pairs b r = λ i. record {
  size = r.sized i;
  derives = fun_ext (λ x. fun_ext (λ y. fun_ext (λ a. ap₂ ◌&&◌ (ap (λ (z : Points). z a) r.lodging) (free y a)))) i;
  reads = fun_ext (λ a. fun_ext (λ c. ap₂ ◌&&◌ (ap (λ (z : Points). z a) r.lodging) (r.protests a c))) i;
}
  where
    below : (a c : ℕ) → protesters b a c ≡ true → c < 128
    below a c h = omega (arith, b.attackers a c h, b.most)

    free : (y : Points) (a : ℕ) → avoids y (protesters b a) ≡ unprotested pairs y a
    free y a =
        both_ways (avoids y (protesters b a)) (unprotested pairs y a)
        (λ h. unprotested_of pairs y a (λ c q. avoids_use (protesters b a) (below a) y h c (r.protests a c ∙ q)))
        (λ h. avoids_of (protesters b a) (below a) y (λ c q. unprotested_use pairs y a h c (sym (r.protests a c) ∙ q)))

pub of_protests : (n : ℕ) (points : List ℕ) (pairs : List (ℕ × ℕ)) (So : Meaning → Type 0) →
    (Lawful (by_protests n points pairs) → So (by_protests n points pairs)) → (b : ProtestBook) → Protests n points pairs b → So (protest_meaning b)
of_protests n points pairs So h b r =
    let e = protests_mean n points pairs b r in
    subst So (sym e) (h (subst Lawful e (protests_lawful b)))
