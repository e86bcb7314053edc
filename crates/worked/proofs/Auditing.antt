-- Upward readings by computing.
use Rattle.std.proofs.Common.{◌≡◌, ℕ, ◌-◌, ◌<◌, Bool, true, not, ◌&&◌, ◌||◌, eqb, List, length, take, drop, Ok, Err, Result, sym, refl, ap, ◌∙◌, subst, ap₂, subst₂, inl, inr, arith, eqb-true}
use Rattle.std.proofs.lemmas.Bool.{not-true, and_parts, false_from_ne_true}
use Rattle.std.specs.List.{ContainsAt, list_all, list_any}
use Rattle.std.proofs.lemmas.List.{length-take}
use Rattle.rows.specs.Rows.{StrictlyInOrder}
use Rattle.rows.proofs.Same.{same_rows}
use Rattle.semantics.specs.Meaning.{Meaning, Lawful}
use Rattle.semantics.proofs.Tests.{false_is_not_true, implies_use}
use Rattle.answers.specs.declared.fault.Refusal.TheVariants.{ReadsUpward}
use Rattle.answers.specs.declared.fault.Layer.TheVariants as layer
use Rattle.answers.specs.declared.fault.Fault.{Fault}
use Rattle.answers.specs.declared.listing.Listing.{Listing}
use Rattle.answers.specs.declared.audit.UpwardReading.{UpwardReading}
use Rattle.answers.specs.Faults.{fault_of}
use Rattle.answers.specs.AuditRows.{AuditedBefore}
use Rattle.answers.specs.AuditOrder.{audit_order}
use Rattle.books.specs.Entries.{every_below}
use Rattle.books.specs.EntriesLemmas.{every_below_use}
use Rattle.chapters.specs.Fitting.{upward, UpwardDenied}
use Rattle.chapters.proofs.Upward.{upward_once, fitting}
use Rattle.marker.specs.Listing.{Listed}
use Rattle.marker.specs.Audit.{reading_row, AllUpward, Audited}
use Rattle.worked.specs.Answers.{RefusesListing, GivesAudit}
use Rattle.worked.proofs.Checks.{all_use, any_has}

module _ (m : Meaning) (ch : ℕ → ℕ) where
  upward_inside : Lawful m → (a b : ℕ) → upward m ch a b ≡ true → (a < m.size) × (b < m.size)
  upward_inside l a b h = l.reads_inside a b (and_parts (m.reads a b) _ h).0

  module _ (a b : ℕ) where
    -- the first upward reading is that of b by a
    abbrev pub refuse_check : Bool
    refuse_check =
        upward m ch a b && (every_below b (λ d. not (upward m ch a d)) && every_below a (λ c. every_below m.size (λ d. not (upward m ch c d))))

    pub refuses : Lawful m → refuse_check ≡ true → RefusesListing m ch (fault_of layer.Marker (ReadsUpward a b))
    unfolding RefusesListing
    refuses l h found left r = (only r, λ e. subst₂ (Listed m ch found) (sym e.0) (sym e.1) (inl (inl denied, refl)))
      where
        denied : UpwardDenied m ch (fault_of layer.Marker (ReadsUpward a b))
        denied =
            let p = and_parts (upward m ch a b) _ h in
            let q = and_parts (every_below b (λ d. not (upward m ch a d))) _ p.1 in (
              a,
              b,
              refl,
              (
                p.0,
                λ d i. not-true (upward m ch a d) (every_below_use b (λ e. not (upward m ch a e)) q.0 d i),
                λ c d i. false_from_ne_true (upward m ch c d) (λ u.
                    let inside = upward_inside l c d u in
                    let none = every_below_use a (λ e. every_below m.size (λ f. not (upward m ch e f))) q.1 c i in
                    false_is_not_true (sym (not-true (upward m ch c d) (every_below_use m.size (λ f. not (upward m ch c f)) none d inside.1)) ∙ u)),
              ),
            )

        only : (o : Result Listing Fault) → Listed m ch found o left → (o ≡ Err (fault_of layer.Marker (ReadsUpward a b))) × (left ≡ found)
        only (Ok o) (fit, _, _, _, _, _, _) = fitting m ch (fault_of layer.Marker (ReadsUpward a b)) fit denied
        only (Err f) (inl (inl u, same)) = (ap Err (upward_once m ch f (fault_of layer.Marker (ReadsUpward a b)) u denied), same)
        only (Err f) (inl (inr (fit, _), _)) = fitting m ch (fault_of layer.Marker (ReadsUpward a b)) fit denied
        only (Err f) (inr ((fit, _, _), _)) = fitting m ch (fault_of layer.Marker (ReadsUpward a b)) fit denied

  -- the row is that of an upward reading
  abbrev pub is_upward : UpwardReading → Bool
  is_upward r = upward m ch r.reader r.read && eqb r.drop (ch r.read - ch r.reader)

  abbrev pub is_row : ℕ → ℕ → UpwardReading → Bool
  is_row a b r = eqb r.reader a && eqb r.read b

  module _ (rows : List UpwardReading) where
    -- the rows are all upward readings
    abbrev pub audit_check : Bool
    audit_check =
        list_all is_upward rows && every_below m.size (λ a. every_below m.size (λ b. not (upward m ch a b) || list_any (is_row a b) rows))

    pub audits : Lawful m → StrictlyInOrder AuditedBefore rows → audit_check ≡ true → GivesAudit m ch rows
    unfolding GivesAudit
    audits l ordered h found left room long r = (only_answer r, there)
      where
        each_upward : list_all is_upward rows ≡ true
        each_upward = (and_parts (list_all is_upward rows) _ h).0

        row_is : (r : UpwardReading) → is_upward r ≡ true → r ≡ reading_row ch r.reader r.read
        row_is r e =
            ap (λ (d : ℕ). record { drop = d; reader = r.reader; read = r.read })
            (eqb-true r.drop (ch r.read - ch r.reader) (and_parts (upward m ch r.reader r.read) _ e).1)

        only : (r : UpwardReading) → ContainsAt rows r → (a : ℕ) × (b : ℕ) × (upward m ch a b ≡ true) × (r ≡ reading_row ch a b)
        only r there =
            let e = all_use is_upward rows each_upward r there in
            (r.reader, r.read, (and_parts (upward m ch r.reader r.read) _ e).0, row_is r e)

        each : (a b : ℕ) → upward m ch a b ≡ true → ContainsAt rows (reading_row ch a b)
        each a b u =
            let i = upward_inside l a b u in
            let c = every_below_use m.size (λ e. every_below m.size (λ f. not (upward m ch e f) || list_any (is_row e f) rows)) (and_parts (list_all is_upward rows) _ h).1 a i.0 in
            let d = every_below_use m.size (λ f. not (upward m ch a f) || list_any (is_row a f) rows) c b i.1 in
            let (r, there, e) = any_has (is_row a b) rows (implies_use _ _ d u) in
            let q = and_parts (eqb r.reader a) (eqb r.read b) e in
            subst (ContainsAt rows)
            (row_is r (all_use is_upward rows each_upward r there) ∙ ap₂ (reading_row ch) (eqb-true r.reader a q.0) (eqb-true r.read b q.1))
            there

        audit : AllUpward m ch rows
        audit = record { upward_only = only; each_there = each; in_order = ordered }

        same : (xs : List UpwardReading) → AllUpward m ch xs → xs ≡ rows
        same xs xs_all =
            same_rows AuditedBefore audit_order xs rows xs_all.in_order ordered (λ s. (through xs rows xs_all audit s, through rows xs audit xs_all s))
          where
            through : (ys zs : List UpwardReading) → AllUpward m ch ys → AllUpward m ch zs → (s : UpwardReading) → ContainsAt ys s → ContainsAt zs s
            through ys zs p q s there =
                let (a, b, u, e) = p.upward_only s there in
                subst (ContainsAt zs) (sym e) (q.each_there a b u)

        Left : ℕ → Type 0
        Left n = (take n left ≡ rows) × (drop n left ≡ drop n found)

        only_answer : (o : Result ℕ Fault) → Audited m ch found o left → (o ≡ Ok (length rows)) × (take (length rows) left ≡ rows) × (drop (length rows) left ≡ drop (length rows) found)
        only_answer (Ok n) (inside, rows_left, later) =
            let e : take n left ≡ rows = same (take n left) rows_left in
            let count : n ≡ length rows = omega (arith, length-take n left, ap length e) in
            let said : Left n = (e, later) in
            let left_said : Left (length rows) = subst Left count said in
            (ap Ok count, left_said.0, left_said.1)
        only_answer (Err f) (_, (xs, xs_all, more), _) = absurd (omega (arith, ap length (same xs xs_all)))

        there : (r ≡ Ok (length rows)) × (take (length rows) left ≡ rows) × (drop (length rows) left ≡ drop (length rows) found) → Audited m ch found r left
        there (e, first, later) =
            subst (λ (o : Result ℕ Fault). Audited m ch found o left) (sym e) (room, subst (AllUpward m ch) (sym first) audit, later)
