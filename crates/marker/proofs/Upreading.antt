-- The reading chapter by chapter: what one chapter adds leaves the lower parts as they were.
use Rattle.std.proofs.Common.{◌≡◌, ℕ, ◌+◌, ◌<◌, ◌≤◌, Bool, true, ◌&&◌, eqb, ltb, ◌⊎◌, sym, subst, inl, inr, eq-or-lt_of_le, arith, ltb-true, lt-ltb, eq-eqb, eqb-true}
use Rattle.std.proofs.lemmas.Bool.{and_parts, and_from, or_cases, or_left, or_right}
use Rattle.rulings.specs.Points.{Points, union}
use Rattle.semantics.specs.Meaning.{Meaning, Lawful}
use Rattle.semantics.specs.Closure.{IsClosure}
use Rattle.semantics.specs.Chapters.{in_chapter, below_chapter, chapter}
use Rattle.semantics.specs.WellFounded.{LeastPair, PartRead}
use Rattle.semantics.proofs.Closures.{same_points, closure_supported}
use Rattle.semantics.proofs.Splitting.{chapter_lawful}

-- all points of x lie in chapters lower than k; all points of z in chapter k
abbrev pub Below : (ℕ → ℕ) → ℕ → Points → Type 0
Below ch k x = (a : ℕ) → x a ≡ true → ch a < k

abbrev pub Inside : (ℕ → ℕ) → ℕ → Points → Type 0
Inside ch k z = (a : ℕ) → z a ≡ true → ch a ≡ k

module _ (ch : ℕ → ℕ) (k : ℕ) (x z : Points) (low : Below ch k x) (here : Inside ch k z) where
  from_union : (a : ℕ) (test : Bool) → test && union x z a ≡ true → (test ≡ true) × ((x a ≡ true) ⊎ (z a ≡ true))
  from_union a test h = let p = and_parts test (union x z a) h in (p.0, or_cases (x a) (z a) p.1)

  pub below_kept : (j : ℕ) → j ≤ k → below_chapter ch j (union x z) ≡ below_chapter ch j x
  below_kept j le =
      same_points (below_chapter ch j (union x z)) (below_chapter ch j x)
      (λ a h. there a (from_union a (ltb (ch a) j) h))
      (λ a h. let p = and_parts (ltb (ch a) j) (x a) h in and_from _ _ p.0 (or_left (x a) (z a) p.1))
    where
      there : (a : ℕ) → (ltb (ch a) j ≡ true) × ((x a ≡ true) ⊎ (z a ≡ true)) → below_chapter ch j x a ≡ true
      there a (t, inl e) = and_from _ _ t e
      there a (t, inr e) = absurd (omega (arith, ltb-true (ch a) j t, here a e))

  pub part_kept : (j : ℕ) → j < k → in_chapter ch j (union x z) ≡ in_chapter ch j x
  part_kept j less =
      same_points (in_chapter ch j (union x z)) (in_chapter ch j x)
      (λ a h. there a (from_union a (eqb (ch a) j) h))
      (λ a h. let p = and_parts (eqb (ch a) j) (x a) h in and_from _ _ p.0 (or_left (x a) (z a) p.1))
    where
      there : (a : ℕ) → (eqb (ch a) j ≡ true) × ((x a ≡ true) ⊎ (z a ≡ true)) → in_chapter ch j x a ≡ true
      there a (t, inl e) = and_from _ _ t e
      there a (t, inr e) = absurd (omega (arith, eqb-true (ch a) j t, here a e))

  pub below_all : below_chapter ch k (union x z) ≡ x
  below_all =
      same_points (below_chapter ch k (union x z)) x
      (λ a h. there a (from_union a (ltb (ch a) k) h))
      (λ a h. and_from _ _ (lt-ltb (ch a) k (low a h)) (or_left (x a) (z a) h))
    where
      there : (a : ℕ) → (ltb (ch a) k ≡ true) × ((x a ≡ true) ⊎ (z a ≡ true)) → x a ≡ true
      there a (t, inl e) = e
      there a (t, inr e) = absurd (omega (arith, ltb-true (ch a) k t, here a e))

  pub part_new : in_chapter ch k (union x z) ≡ z
  part_new =
      same_points (in_chapter ch k (union x z)) z
      (λ a h. there a (from_union a (eqb (ch a) k) h))
      (λ a h. and_from _ _ (eq-eqb (ch a) k (here a h)) (or_right (x a) (z a) h))
    where
      there : (a : ℕ) → (eqb (ch a) k ≡ true) × ((x a ≡ true) ⊎ (z a ≡ true)) → z a ≡ true
      there a (t, inl e) = absurd (omega (arith, eqb-true (ch a) k t, low a e))
      there a (t, inr e) = e

  pub below_next : Below ch (k + 1) (union x z)
  below_next a h = go (or_cases (x a) (z a) h)
    where
      go : (x a ≡ true) ⊎ (z a ≡ true) → ch a < k + 1
      go (inl e) = omega (arith, low a e)
      go (inr e) = omega (arith, here a e)

-- the reading of the chapters lower than k
pub record ReadBelow (m : Meaning) (ch : ℕ → ℕ) (k : ℕ) (S P : Points) : Type 0 where
  pub sure_low : Below ch k S
  pub possible_low : Below ch k P
  pub parts : (j : ℕ) → j < k → PartRead m ch S P j

-- a closure in a chapter has only points of the chapter
closure_in_chapter : (m : Meaning) → Lawful m → (ch : ℕ → ℕ) (k : ℕ) (U V y X : Points) → IsClosure (chapter m ch k U V) y X → Inside ch k X
closure_in_chapter m l ch k U V y X c a h =
    eqb-true (ch a) k (and_parts (eqb (ch a) k) _ (closure_supported (chapter m ch k U V) (chapter_lawful m l ch k U V) y X c a h)).0

-- chapter k adds its pair
pub read_more : (m : Meaning) → Lawful m → (ch : ℕ → ℕ) (k : ℕ) (S P T Q : Points) → ReadBelow m ch k S P →
    LeastPair (chapter m ch k S P) (chapter m ch k P S) T Q → ReadBelow m ch (k + 1) (union S T) (union P Q)
read_more m l ch k S P T Q below pair =
    record {
      sure_low = below_next ch k S T below.sure_low t_here;
      possible_low = below_next ch k P Q below.possible_low q_here;
      parts = λ j h. part j (eq-or-lt_of_le (omega arith));
    }
  where
    t_here : Inside ch k T
    t_here = closure_in_chapter m l ch k S P Q T pair.alternates.sure

    q_here : Inside ch k Q
    q_here = closure_in_chapter m l ch k P S T Q pair.alternates.possible

    Pair : ℕ → Points → Points → Points → Points → Type 0
    Pair j u v s p = LeastPair (chapter m ch j u v) (chapter m ch j v u) s p

    moved : (j : ℕ) (u v s p u' v' s' p' : Points) → u' ≡ u → v' ≡ v → s' ≡ s → p' ≡ p → Pair j u v s p → Pair j u' v' s' p'
    moved j u v s p u' v' s' p' a b c d h =
        subst (λ (z : Points). Pair j z v' s' p') (sym a) (subst (λ (z : Points). Pair j u z s' p') (sym b)
        (subst (λ (z : Points). Pair j u v z p') (sym c) (subst (λ (z : Points). Pair j u v s z) (sym d) h)))

    part : (j : ℕ) → (j ≡ k) ⊎ (j < k) → PartRead m ch (union S T) (union P Q) j
    part j (inl e) =
        subst (λ (i : ℕ). PartRead m ch (union S T) (union P Q) i) (sym e)
        (moved k S P T Q (below_chapter ch k (union S T)) (below_chapter ch k (union P Q)) (in_chapter ch k (union S T)) (in_chapter ch k (union P Q))
        (below_all ch k S T below.sure_low t_here) (below_all ch k P Q below.possible_low q_here)
        (part_new ch k S T below.sure_low t_here) (part_new ch k P Q below.possible_low q_here) pair)
    part j (inr h) =
        moved j (below_chapter ch j S) (below_chapter ch j P) (in_chapter ch j S) (in_chapter ch j P)
        (below_chapter ch j (union S T)) (below_chapter ch j (union P Q)) (in_chapter ch j (union S T)) (in_chapter ch j (union P Q))
        (below_kept ch k S T below.sure_low t_here j (omega arith)) (below_kept ch k P Q below.possible_low q_here j (omega arith))
        (part_kept ch k S T below.sure_low t_here j h) (part_kept ch k P Q below.possible_low q_here j h) (below.parts j h)
