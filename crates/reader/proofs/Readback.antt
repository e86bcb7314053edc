-- What stands at the front of some bytes is one thing, so an input reads one way, and records read back as their calls.
use Rattle.std.proofs.Common.{◌≡◌, ℕ, suc, ◌<◌, List, [], ◌∷◌, ◌++◌, length, Some, None, Ok, Err, sym, refl, ap, ◌∙◌, subst, ap₂, append_assoc, append-nil, arith, length-append}
use Rattle.std.proofs.lemmas.List.{append_cancel_left}
use Rattle.runs.specs.declared.call.Call.{Call}
use Rattle.reader.specs.declared.kind.Kind.{Kind}
use Rattle.reader.specs.declared.unreadable.Unreadable.TheVariants as unreadable
use Rattle.reader.specs.declared.front.Record.{Record}
use Rattle.reader.specs.Records.{Front, kind_byte, body_length, kind_of, body_of, record_of, records_of, Lends64, AtFront, Ends, ReadsAs, ReadOneWay, RecordsReadBack}
use mathlib.Core.List.{head-eq_of_cons-eq as same_head, tail-eq_of_cons-eq as same_tail}
use Rattle.reader.proofs.Blocks.{same_parts}
use Rattle.reader.proofs.Encodings.{same_kind, same_body, length_body}

-- the records of two calls at the front of the same bytes
same_call : (c d : Call) (us vs : List ℕ) → Lends64 c → Lends64 d → record_of c ++ us ≡ record_of d ++ vs → c ≡ d
same_call c d us vs l m e =
    let k = same_kind (kind_of c) (kind_of d) (same_head e) in
    same_body c d k l m
    (same_parts (body_of c) (body_of d) us vs (length_body c ∙ ap body_length k ∙ sym (length_body d)) (same_tail e)).0

-- a record is not cut
not_cut : {A : Type 0} (c : Call) (us : List ℕ) (k : Kind) (rest : List ℕ) → length rest < body_length k → record_of c ++ us ≡ kind_byte k ∷ rest → A
not_cut c us k rest short e =
    let same = ap body_length (same_kind (kind_of c) k (same_head e)) in
    let long = ap length (same_tail e) in
    absurd (omega (arith, length-append (body_of c) us, length_body c))

front_once : (xs : List ℕ) (e f : Front) → AtFront xs e → AtFront xs f → e ≡ f
front_once xs (Ok None) (Ok None) a b = refl
front_once xs (Ok None) (Ok (Some d)) a (_, _, (vs, b)) = absurd cc
front_once xs (Ok None) (Err unreadable.Unknown) a (_, _, b, _) = absurd cc
front_once xs (Ok None) (Err unreadable.Cut) a (_, _, b, _) = absurd cc
front_once xs (Ok (Some c)) (Ok None) (_, _, (us, a)) b = absurd cc
front_once xs (Ok (Some c)) (Ok (Some d)) (l, p, (us, a)) (l', q, (vs, b)) =
    let same = same_call c.call d.call us vs l l' (sym a ∙ b) in
    let long = p ∙ ap (λ (x : Call). length (record_of x)) same ∙ sym q in
    λ i. Ok (Some (record { call = same i; length = long i }))
front_once xs (Ok (Some c)) (Err unreadable.Unknown) (_, _, (us, a)) (w, rest, b, none) = absurd (none (kind_of c.call) (same_head (sym a ∙ b)))
front_once xs (Ok (Some c)) (Err unreadable.Cut) (_, _, (us, a)) (k, rest, b, short) = not_cut c.call us k rest short (sym a ∙ b)
front_once xs (Err unreadable.Unknown) (Ok None) (_, _, a, _) b = absurd cc
front_once xs (Err unreadable.Unknown) (Ok (Some d)) (w, rest, a, none) (_, _, (vs, b)) = absurd (none (kind_of d.call) (same_head (sym b ∙ a)))
front_once xs (Err unreadable.Unknown) (Err unreadable.Unknown) a b = refl
front_once xs (Err unreadable.Unknown) (Err unreadable.Cut) (w, rest, a, none) (k, rest', b, short) = absurd (none k (same_head (sym b ∙ a)))
front_once xs (Err unreadable.Cut) (Ok None) (_, _, a, _) b = absurd cc
front_once xs (Err unreadable.Cut) (Ok (Some d)) (k, rest, a, short) (_, _, (vs, b)) = not_cut d.call vs k rest short (sym b ∙ a)
front_once xs (Err unreadable.Cut) (Err unreadable.Unknown) (k, rest, a, short) (w, rest', b, none) = absurd (none k (same_head (sym a ∙ b)))
front_once xs (Err unreadable.Cut) (Err unreadable.Cut) a b = refl

-- the first of some calls is at the front, and the rest reads as the others
module _ (input : List ℕ) (c : Call) (cs : List Call) (e : Front) (r : ReadsAs input (c ∷ cs) e) where
  behind : List ℕ
  behind = records_of cs ++ r.tail

  first_behind : input ≡ record_of c ++ behind
  unfolding behind
  first_behind = r.bytes ∙ append_assoc (record_of c) (records_of cs) r.tail

  lends_first : Lends64 c
  lends_first = r.lends c (0, omega arith, λ d. refl)

  first_at_front : AtFront input (Ok (Some (record { call = c; length = length (record_of c) })))
  first_at_front = (lends_first, refl, (behind, first_behind))

  others_behind : ReadsAs behind cs e
  unfolding behind
  others_behind = record {
    lends = λ d h. r.lends d (suc h.0, omega (arith, h.1), h.2);
    tail = r.tail;
    bytes = refl;
    at_tail = r.at_tail;
    ends = r.ends;
  }

none_at_front : (input : List ℕ) (e : Front) (r : ReadsAs input [] e) → AtFront input e
none_at_front input e r = subst (λ (xs : List ℕ). AtFront xs e) (sym r.bytes) r.at_tail

-- no ending is a record
record_ends_nothing : {A : Type 0} (e : Front) (r : Record) → Ends e → e ≡ Ok (Some r) → A
record_ends_nothing e r ends same = absurd (subst Ends same ends)

pub read_one_way : ReadOneWay
read_one_way input [] [] e f r q = (refl, front_once input e f (none_at_front input e r) (none_at_front input f q))
read_one_way input [] (d ∷ ds) e f r q =
    record_ends_nothing e _ r.ends (front_once input e _ (none_at_front input e r) (first_at_front input d ds f q))
read_one_way input (c ∷ cs) [] e f r q =
    record_ends_nothing f _ q.ends (front_once input f _ (none_at_front input f q) (first_at_front input c cs e r))
read_one_way input (c ∷ cs) (d ∷ ds) e f r q =
    let same = same_call c d (behind input c cs e r) (behind input d ds f q) (lends_first input c cs e r) (lends_first input d ds f q)
    (sym (first_behind input c cs e r) ∙ first_behind input d ds f q) in
    let rest : behind input d ds f q ≡ behind input c cs e r =
    append_cancel_left (record_of d) (behind input d ds f q) (behind input c cs e r)
    (sym (first_behind input d ds f q) ∙ first_behind input c cs e r ∙ ap (λ (x : Call). record_of x ++ behind input c cs e r) same) in
    let others = read_one_way (behind input c cs e r) cs ds e f (others_behind input c cs e r)
    (subst (λ (xs : List ℕ). ReadsAs xs ds f) rest (others_behind input d ds f q)) in
    (ap₂ (λ (x : Call) (xs : List Call). x ∷ xs) same others.0, others.1)

pub records_read_back : RecordsReadBack
records_read_back cs lends = (back, λ ds e r. read_one_way (records_of cs) ds cs e (Ok None) r back)
  where
    back : ReadsAs (records_of cs) cs (Ok None)
    back = record { lends = lends; tail = []; bytes = sym (append-nil (records_of cs)); at_tail = refl; ends = tt }
