-- What a change promises that was accepted, and one that was denied, over the meanings before and after it.
use Rattle.std.specs.Prelude.{◌≡◌, ℕ, ◌<◌, ◌≤◌, ◌⊎◌, Some, None, Ok, Err}
use Rattle.std.proofs.Common.{sym, ap, subst, ◌∙◌, inl, inr, arith, lit≤}
use Rattle.std.proofs.Math.Decide.{dec_lt}
use Rattle.rulings.specs.Points.{Points, Lowest}
use Rattle.rulings.specs.declared.ruling.Ruling.{Ruling}
use Rattle.semantics.specs.Meaning.{Meaning}
use Rattle.semantics.proofs.Tests.{false_is_not_true}
use Rattle.answers.specs.declared.fault.Refusal.{Refusal}
use Rattle.answers.specs.declared.fault.Refusal.TheVariants.{BadSize, NoSuchPoint, StrayMark}
use Rattle.answers.specs.declared.fault.Layer.TheVariants.{Book}
use Rattle.answers.specs.declared.fault.Fault.{Fault}
use Rattle.answers.specs.Faults.{fault_of, number}
use Rattle.books.specs.Promise.{Outcome, BySort, BadSizeFor, SameBut, Opening, Entering, Withdrawing, strays, EnteringDenied, WithdrawingDenied}

-- one fault has one refusal
refusal_is : {f : Fault} {why why' : Refusal} → f ≡ fault_of Book why → f ≡ fault_of Book why' → why ≡ why'
refusal_is e e' = ap (λ (g : Fault). g.refusal) (sym e ∙ e')

-- a fault that the sort of book decides has a refusal of another number than those of every book
pub not_by_sort : {A : Type 0} (why : Refusal) {f : Fault} → BySort f → f ≡ fault_of Book why → number why < 4 → A
not_by_sort why (own, is, low, high) e less =
    let same : number own ≡ number why = ap number (refusal_is is e) in
    absurd (omega arith)

-- a set has one lowest point
pub one_lowest : (x : Points) (k s : ℕ) → Lowest x (Some k) → Lowest x (Some s) → k ≡ s
one_lowest x k s hk hs = go (dec_lt k s) (dec_lt s k)
  where
    go : Dec (k < s) → Dec (s < k) → k ≡ s
    go (yes u) v = false_is_not_true (sym (hs.1 k u) ∙ hk.0)
    go (no u) (yes v) = false_is_not_true (sym (hk.1 s v) ∙ hs.0)
    go (no u) (no v) = omega (arith, u, v)

-- an opening goes by the size alone
module _ (m : Meaning) (n : ℕ) (m' : Meaning) where
  pub opening_accepted : (BadSizeFor n → ⊥) → m'.size ≡ n → Opening m n (Ok tt) m'
  opening_accepted good size =
      record {
        bad_size = (λ e. cc, λ h. absurd (good h));
        otherwise = λ f e. cc;
        accepted = λ _. size;
        unaltered = λ f e. cc;
      }

  pub opening_denied : (f : Fault) → BadSizeFor n → f ≡ fault_of Book BadSize → m' ≡ m → Opening m n (Err f) m'
  opening_denied f bad is same =
      record {
        bad_size = (λ _. bad, λ _. ap Err is);
        otherwise = λ g e. inl cc;
        accepted = λ e. cc;
        unaltered = λ g e. same;
      }

-- an entering that was accepted, and one that was denied
module _ (m : Meaning) (a : ℕ) (p q : Ruling) (m' : Meaning) where
  pub entering_accepted : a < m.size → Lowest (strays m.size p q) None → m'.size ≡ m.size → SameBut a m m' → Entering m a p q (Ok tt) m'
  entering_accepted inside clear size same =
      record {
        no_such_point = (λ e. cc, λ h. absurd (omega arith));
        stray_mark = λ s. (λ e. cc, λ h. false_is_not_true (sym (clear s) ∙ h.1.0));
        otherwise = λ f e. cc;
        accepted = λ _. (size, same);
        unaltered = λ f e. cc;
      }

  -- where what the sort of book denies is one of the refusals left to it
  pub entering_denied : (own : Fault → Type 0) (f : Fault) → (own f → BySort f) → EnteringDenied m.size a p q own f → m' ≡ m → Entering m a p q (Err f) m'
  entering_denied own f sort why same =
      record {
        no_such_point = (λ e. point_of why (fault e), λ h. ap Err (of_point why h));
        stray_mark = λ s. (λ e. stray_of why s (fault e), λ h. ap Err (of_stray why s h.0 h.1));
        otherwise = λ g e. subst (λ (k : Fault). (k ≡ fault_of Book (NoSuchPoint a)) ⊎ (((s : ℕ) × (k ≡ fault_of Book (StrayMark s))) ⊎ BySort k)) (fault e) (cases why);
        accepted = λ e. cc;
        unaltered = λ g e. same;
      }
    where
      fault : {g : Fault} → ◌≡◌ {A = Outcome} (Err f) (Err g) → f ≡ g
      fault e = cc

      point_of : EnteringDenied m.size a p q own f → f ≡ fault_of Book (NoSuchPoint a) → m.size ≤ a
      point_of (inl h) e = h.1
      point_of (inr (inl ((k, is, low), inside))) e = let same : StrayMark k ≡ NoSuchPoint a = refusal_is is e in cc
      point_of (inr (inr h)) e = not_by_sort (NoSuchPoint a) (sort h.0) e (lit≤ tt)

      of_point : EnteringDenied m.size a p q own f → m.size ≤ a → f ≡ fault_of Book (NoSuchPoint a)
      of_point (inl h) l = h.0
      of_point (inr (inl (stray, inside))) l = absurd (omega arith)
      of_point (inr (inr h)) l = absurd (omega (arith, h.1))

      stray_of : EnteringDenied m.size a p q own f → (s : ℕ) → f ≡ fault_of Book (StrayMark s) → (a < m.size) × Lowest (strays m.size p q) (Some s)
      stray_of (inl h) s e = let is : NoSuchPoint a ≡ StrayMark s = refusal_is h.0 e in cc
      stray_of (inr (inl ((k, is, low), inside))) s e =
          let same : StrayMark k ≡ StrayMark s = refusal_is is e in
          let at : k ≡ s = cc in
          (inside, subst (λ (k : ℕ). Lowest (strays m.size p q) (Some k)) at low)
      stray_of (inr (inr h)) s e = not_by_sort (StrayMark s) (sort h.0) e (lit≤ tt)

      of_stray : EnteringDenied m.size a p q own f → (s : ℕ) → a < m.size → Lowest (strays m.size p q) (Some s) → f ≡ fault_of Book (StrayMark s)
      of_stray (inl h) s l low = absurd (omega (arith, h.1))
      of_stray (inr (inl ((k, is, lowest), inside))) s l low = is ∙ ap (λ (k : ℕ). fault_of Book (StrayMark k)) (one_lowest (strays m.size p q) k s lowest low)
      of_stray (inr (inr h)) s l low = false_is_not_true (sym (h.2 s) ∙ low.0)

      cases : EnteringDenied m.size a p q own f → (f ≡ fault_of Book (NoSuchPoint a)) ⊎ (((s : ℕ) × (f ≡ fault_of Book (StrayMark s))) ⊎ BySort f)
      cases (inl h) = inl h.0
      cases (inr (inl ((k, is, low), inside))) = inr (inl (k, is))
      cases (inr (inr h)) = inr (inr (sort h.0))

-- a withdrawing that was accepted, and one that was denied
module _ (m : Meaning) (a : ℕ) (m' : Meaning) where
  pub withdrawing_accepted : a < m.size → m'.size ≡ m.size → SameBut a m m' → Withdrawing m a (Ok tt) m'
  withdrawing_accepted inside size same =
      record {
        no_such_point = (λ e. cc, λ h. absurd (omega arith));
        otherwise = λ f e. cc;
        accepted = λ _. (size, same);
        unaltered = λ f e. cc;
      }

  pub withdrawing_denied : (own : Fault → Type 0) (f : Fault) → (own f → BySort f) → WithdrawingDenied m.size a own f → m' ≡ m → Withdrawing m a (Err f) m'
  withdrawing_denied own f sort why same =
      record {
        no_such_point = (λ e. point_of why (fault e), λ h. ap Err (of_point why h));
        otherwise = λ g e. subst (λ (k : Fault). (k ≡ fault_of Book (NoSuchPoint a)) ⊎ BySort k) (fault e) (cases why);
        accepted = λ e. cc;
        unaltered = λ g e. same;
      }
    where
      fault : {g : Fault} → ◌≡◌ {A = Outcome} (Err f) (Err g) → f ≡ g
      fault e = cc

      point_of : WithdrawingDenied m.size a own f → f ≡ fault_of Book (NoSuchPoint a) → m.size ≤ a
      point_of (inl h) e = h.1
      point_of (inr h) e = not_by_sort (NoSuchPoint a) (sort h.0) e (lit≤ tt)

      of_point : WithdrawingDenied m.size a own f → m.size ≤ a → f ≡ fault_of Book (NoSuchPoint a)
      of_point (inl h) l = h.0
      of_point (inr h) l = absurd (omega (arith, h.1))

      cases : WithdrawingDenied m.size a own f → (f ≡ fault_of Book (NoSuchPoint a)) ⊎ BySort f
      cases (inl h) = inl h.0
      cases (inr h) = inr (sort h.0)
