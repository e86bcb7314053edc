-- The well-founded model, a chapter at a time.
use Rattle.std.proofs.Common.{◌≡◌, ℕ, ◌<◌, true}
use Rattle.rulings.specs.Points.{Points, Part}
use Rattle.semantics.specs.Meaning.{Meaning, Lawful}
use Rattle.semantics.specs.Closure.{Closed, IsClosure}
use Rattle.semantics.specs.Chapters.{in_chapter, below_chapter, Fit}
use Rattle.semantics.specs.WellFounded.{Alternates, WellFounded, PartRead, WellFoundedSplits}
use Rattle.semantics.proofs.Closures.{closure, is_closure, shrinks, derives_mono, closure_least_inside}
use Rattle.semantics.proofs.Closures.{cut, cut_of, cut_part, cut_inside}
use Rattle.semantics.proofs.Alternating.{least_pair_within}
use Rattle.semantics.proofs.Splitting.{of_chapter, own_chapter, PartIn, in_chapter_of, in_chapter_within, in_chapter_part}
use Rattle.semantics.proofs.Splitting.{chapter_under, chapter_lawful, derives_in_chapter, derives_in_book}
use Rattle.semantics.proofs.Splitting.{closure_restricts, closure_joins, chapter_induction}

module _ (m : Meaning) (l : Lawful m) (ch : ℕ → ℕ) (fit : Fit m ch) (S P : Points) where
  -- chapter k where its sure points are worked out, and where its possible points are
  abbrev sure_in : ℕ → Meaning
  sure_in k = chapter_under m ch k S P

  abbrev possible_in : ℕ → Meaning
  possible_in k = chapter_under m ch k P S

  sure_in_lawful : (k : ℕ) → Lawful (sure_in k)
  sure_in_lawful k = chapter_lawful m l ch k (below_chapter ch k S) (below_chapter ch k P)

  possible_in_lawful : (k : ℕ) → Lawful (possible_in k)
  possible_in_lawful k = chapter_lawful m l ch k (below_chapter ch k P) (below_chapter ch k S)

  -- In chapter k the model's sure points S are in those of every alternating pair (S', P') of the chapter:
  -- Z, which is S cut down there to S', is closed under its own closure Q.
  sure_points_within : WellFounded m S P → (k : ℕ) (S' P' : Points) → Alternates (sure_in k) (possible_in k) S' P' → PartIn ch k S S'
  sure_points_within f k S' P' t a e h = zs' a e (least_pair_within m m l l S P f Z Q q closed a h)
    where
      Z : Points
      Z = cut (of_chapter ch k) S' S

      Q : Points
      Q = closure m Z

      q : IsClosure m Z Q
      q = is_closure m l Z

      zs : Part Z S
      zs = cut_part (of_chapter ch k) S' S

      zs' : PartIn ch k Z S'
      zs' = cut_inside (of_chapter ch k) S' S

      pq : Part P Q
      pq = shrinks m l Z S Q P zs q f.alternates.possible

      from_chapter : Part ((possible_in k).derives Q S') (m.derives Q Z)
      from_chapter = derives_in_book m l ch fit k P S Q S' Q Z (λ b _. pq b) (λ b _ i. i) (λ b _. zs b) zs'

      p'q : Part P' Q
      p'q = t.possible.least Q (λ b r. q.closed b (from_chapter b r))

      to_chapter : PartIn ch k (m.derives Z Q) ((sure_in k).derives S' P')
      to_chapter = derives_in_chapter m l ch fit k Z Q S P S' P' (λ b _. zs b) zs' (λ b _. pq b) (λ b _. p'q b)

      in_book : Part (m.derives Z Q) S
      in_book b r = f.alternates.sure.closed b (derives_mono m l Z S Q P b (λ d _. (zs d, pq d)) r)

      closed : Closed m Q Z
      closed b r = cut_of (of_chapter ch k) S' S b (in_book b r) (λ i. t.sure.closed b (to_chapter b i r))

  -- the model's part in a chapter is the pair that the chapter adds
  pub reading_restricts : WellFounded m S P → (k : ℕ) → PartRead m ch S P k
  reading_restricts f k =
      record {
        alternates = record { sure = closure_restricts m l ch fit k P S f.alternates.sure; possible = possible };
        extreme = λ S' P' t.
            let s : Part (in_chapter ch k S) S' = in_chapter_within ch k S S' (sure_points_within f k S' P' t) in
            (s, shrinks (possible_in k) (possible_in_lawful k) (in_chapter ch k S) S' (in_chapter ch k P) P' s possible t.possible);
      }
    where
      possible : IsClosure (possible_in k) (in_chapter ch k S) (in_chapter ch k P)
      possible = closure_restricts m l ch fit k S P f.alternates.possible

  -- at point a the pair (S, P) is as extreme as (S', P')
  abbrev Extreme : Points → Points → ℕ → Type 0
  Extreme S' P' a = (S a ≡ true → S' a ≡ true) × (P' a ≡ true → P a ≡ true)

  -- the pairs that the chapters add are as extreme as every alternating pair of the book, if the lower ones are
  extreme_at : (S' P' : Points) → Alternates m m S' P' → (a : ℕ) → PartRead m ch S P (ch a) →
      ((b : ℕ) → ch b < ch a → Extreme S' P' b) → Extreme S' P' a
  extreme_at S' P' t a f lower = (λ h. ss' a (in_chapter_of ch k S a (own_chapter ch a) h), λ h. in_chapter_part ch k P a (qp a (p'q a (own_chapter ch a) h)))
    where
      k : ℕ
      k = ch a

      Q : Points
      Q = closure (possible_in k) S'

      q : IsClosure (possible_in k) S' Q
      q = is_closure (possible_in k) (possible_in_lawful k) S'

      to_chapter : (W : Points) → Part W P' → PartIn ch k W Q → PartIn ch k (m.derives W S') ((possible_in k).derives Q S')
      to_chapter W wp wq = derives_in_chapter m l ch fit k W S' P S Q S' (λ b n h. (lower b n).1 (wp b h)) wq (λ b n. (lower b n).0) (λ b _ h. h)

      p'q : PartIn ch k P' Q
      p'q = closure_least_inside m l S' P' t.possible (of_chapter ch k) Q (λ W wp wq b e r. q.closed b (to_chapter W wp wq b e r))

      from_chapter : Part ((sure_in k).derives S' Q) (m.derives S' P')
      from_chapter = derives_in_book m l ch fit k S P S' Q S' P' (λ b n. (lower b n).0) (λ b _ h. h) (λ b n. (lower b n).1) p'q

      ss' : Part (in_chapter ch k S) S'
      ss' =
          least_pair_within (sure_in k) (possible_in k) (sure_in_lawful k) (possible_in_lawful k) (in_chapter ch k S) (in_chapter ch k P) f
          S' Q q (λ b r. t.sure.closed b (from_chapter b r))

      qp : Part Q (in_chapter ch k P)
      qp = shrinks (possible_in k) (possible_in_lawful k) (in_chapter ch k S) S' (in_chapter ch k P) Q ss' f.alternates.possible q

  -- read upward, the pairs that the chapters add make up the model
  pub reading_joins : ((a : ℕ) → PartRead m ch S P (ch a)) → WellFounded m S P
  reading_joins f =
      record {
        alternates =
            record {
              sure = closure_joins m l ch fit P S (λ a. (f a).alternates.sure);
              possible = closure_joins m l ch fit S P (λ a. (f a).alternates.possible);
            };
        extreme = λ S' P' t.
            let every : (a : ℕ) → Extreme S' P' a = chapter_induction ch (Extreme S' P') (λ a. extreme_at S' P' t a (f a)) in
            (λ a. (every a).0, λ a. (every a).1);
      }

pub well_founded_splits : WellFoundedSplits
well_founded_splits m ch l fit few S P =
    (λ f k _. reading_restricts m l ch fit S P f k, λ f. reading_joins m l ch fit S P (λ a. f (ch a) (few a)))
