-- A stream under way: the calls read and answered so far, one record more, and how it ends.
use Rattle.std.proofs.Common.{◌≡◌, ℕ, ◌+◌, ◌-◌, ◌<◌, ◌≤◌, ◌⊎◌, List, [], ◌∷◌, ◌++◌, length, take, drop, Some, None, Ok, Err, Option, sym, refl, ap, ◌∙◌, subst, inl, inr, ⊎_elim, append_assoc, append-nil, arith, length-append}
use Rattle.std.specs.List.{ContainsAt}
use Rattle.std.proofs.ByRecursion.{has_push_cases}
use Rattle.std.proofs.lemmas.Grind.{flat_map-append}
use Rattle.std.proofs.lemmas.List.{take_at, drop_at, drop-drop}
use Rattle.answers.specs.declared.fault.Fault.{Fault}
use Rattle.answers.specs.declared.fault.Refusal.TheVariants.{InputTooLong}
use Rattle.books.specs.declared.book.Book.{Ghosts as Sort}
use Rattle.marker.specs.declared.marker.Marker.{Marker}
use Rattle.runs.specs.declared.call.Call.{Call}
use Rattle.runs.specs.History.{History}
use Rattle.runs.specs.Step.{marker_calls, call_does}
use Rattle.runs.specs.Told.{Told}
use Rattle.runs.proofs.Chains.{nothing, extend}
use Rattle.reader.specs.declared.front.Record.{Record}
use Rattle.reader.specs.Records.{Front, AtFront, Ends, Lends64, record_of, records_of}
use Rattle.reader.specs.Replies.{reply_of}
use Rattle.reader.specs.Streams.{Stream, ServedSoFar, replies, last_reply}
use Rattle.reader.specs.Turns.{Turned, TakesRecord, Does, Replied, reader_fault}
use Rattle.reader.specs.Writing.{WroteAll}
use Rattle.reader.proofs.Fronts.{within_unreadable, within_record}

-- the records of calls, and of one call more
records_push : (cs : List Call) (c : Call) → records_of (cs ++ c ∷ []) ≡ records_of cs ++ record_of c
records_push cs c = flat_map-append record_of cs (c ∷ []) ∙ ap (λ xs. records_of cs ++ xs) (append-nil (record_of c))

-- the replies to calls, and to one call more
replies_push : (o : ℕ) (cs : List Call) (c : Call) (ts : List Told) (t : Told) → length ts ≡ length cs →
    replies o (cs ++ c ∷ []) (ts ++ t ∷ []) ≡ replies o cs ts ++ reply_of (o + length (records_of cs)) t
replies_push o [] c [] t each = append-nil (reply_of o t) ∙ ap (λ n. reply_of n t) (let z : o ≡ o + 0 = omega arith in z)
replies_push o [] c (u ∷ ts) t each = absurd (omega arith)
replies_push o (d ∷ cs) c [] t each = absurd (omega arith)
replies_push o (d ∷ cs) c (u ∷ ts) t each =
    let further : o + length (record_of d) + length (records_of cs) ≡ o + length (records_of (d ∷ cs)) = omega (arith, length-append (record_of d) (records_of cs)) in
    ap (λ xs. reply_of o u ++ xs) (replies_push (o + length (record_of d)) cs c ts t (omega arith))
    ∙ ap (λ n. reply_of o u ++ (replies (o + length (record_of d)) cs ts ++ reply_of n t)) further
    ∙ sym (append_assoc (reply_of o u) (replies (o + length (record_of d)) cs ts) (reply_of (o + length (records_of (d ∷ cs))) t))

-- a reply that was written is what stands at the front of the buffer
pub written_there : {reply found left : List ℕ} {n : ℕ} → WroteAll reply found n left → take n left ≡ reply
written_there {reply} {found} {n = n} w = ap (take n) w.there ∙ take_at reply (drop (length reply) found) n (sym w.count)

reply_there : (told : Option (List ℕ)) (found left : List ℕ) (n : ℕ) → Replied told found (Ok (Some n)) left → (told ≡ Some (take n left)) × (n ≤ length left)
reply_there None found left n (is, _) = absurd (cc)
reply_there (Some reply) found left n (is, wrote) =
    let long : n ≡ length reply = cc in
    let w : WroteAll reply found n left = record { count = long; there = wrote } in
    (ap (λ (xs : List ℕ). Some xs) (sym (written_there w)), omega (arith, ap length wrote, length-append reply (drop (length reply) found)))

no_reply : (told : Option (List ℕ)) (found left : List ℕ) → Replied told found (Ok None) left → told ≡ None
no_reply None found left replied = refl
no_reply (Some reply) found left (is, _) = absurd (cc)

never_refused : {A : Type 0} (told : Option (List ℕ)) (found left : List ℕ) (why : Fault) → Replied told found (Err why) left → A
never_refused None found left why (is, _) = absurd (cc)
never_refused (Some reply) found left why (is, _) = absurd (cc)

-- all calls of a stream, as the first of its input
pub so_far : {B : Type 0} (S : Sort B) (start : Marker B) (input output : List ℕ) (end : Marker B) → Stream S start input output end → ServedSoFar S start input end
so_far S start input output end x = (x.calls, x.answers, (x.read.lends, (x.read.tail, x.read.bytes)), x.history)

-- no call yet
pub not_begun : {B : Type 0} (S : Sort B) (start : Marker B) (input : List ℕ) → ServedSoFar S start input start
not_begun S start input = ([], [], (λ c h. absurd (omega (arith, h.1)), (input, refl)), nothing (marker_calls S) start)

module _ {B : Type 0} (S : Sort B) (start : Marker B) (input : List ℕ) where
  -- so far: the place is behind the records of some calls, and all of these are answered
  pub record SoFar (place : ℕ) (output : List ℕ) (now : Marker B) : Type 0 where
    pub calls : List Call
    pub answers : List Told
    pub lends : (c : Call) → ContainsAt calls c → Lends64 c
    pub bytes : input ≡ records_of calls ++ drop place input
    pub behind : place ≡ length (records_of calls)
    pub history : History (marker_calls S) start calls answers now
    pub replied : output ≡ replies 0 calls answers

  begun : SoFar 0 [] start
  begun =
      record {
        calls = [];
        answers = [];
        lends = λ c h. absurd (omega (arith, h.1));
        bytes = refl;
        behind = refl;
        history = nothing (marker_calls S) start;
        replied = refl;
      }

  -- one record more
  one_more : (place : ℕ) (output : List ℕ) (now now' : Marker B) (r : Record) (t : Told) → SoFar place output now →
      AtFront (drop place input) (Ok (Some r)) → call_does S r.call now t now' → SoFar (place + r.length) (output ++ reply_of place t) now'
  one_more place output now now' r t w (lends, long, (rest, is)) does =
      let c = r.call in
      let n = r.length in
      let calls = w.calls in
      let answers = w.answers in
      let left : drop (place + n) input ≡ rest = sym (drop-drop n place input) ∙ ap (drop n) is ∙ drop_at (record_of c) rest n (sym long) in
      record {
        calls = calls ++ c ∷ [];
        answers = answers ++ t ∷ [];
        lends = λ d h. ⊎_elim (w.lends d) (λ (e : c ≡ d). subst Lends64 e lends) (has_push_cases calls c d h);
        bytes = w.bytes
            ∙ ap (λ xs. records_of calls ++ xs) (is ∙ ap (λ xs. record_of c ++ xs) (sym left))
            ∙ sym (append_assoc (records_of calls) (record_of c) (drop (place + n) input))
            ∙ ap (λ xs. xs ++ drop (place + n) input) (sym (records_push calls c));
        behind = omega (arith, w.behind, long, ap length (records_push calls c), length-append (records_of calls) (record_of c));
        history = extend (marker_calls S) w.history c t now' does;
        replied = ap (λ xs. xs ++ reply_of place t) w.replied
            ∙ ap (λ n. replies 0 calls answers ++ reply_of n t) (let z : place ≡ 0 + length (records_of calls) = omega (arith, w.behind) in z)
            ∙ sym (replies_push 0 calls c answers t w.history.each);
      }

  -- the end
  ended : (place : ℕ) (output : List ℕ) (now : Marker B) (f : Front) → SoFar place output now → AtFront (drop place input) f → Ends f → Stream S start input (output ++ last_reply place f) now
  ended place output now f w stands ends =
      record {
        calls = w.calls;
        answers = w.answers;
        ending = f;
        read = record { lends = w.lends; tail = drop place input; bytes = w.bytes; at_tail = stands; ends = ends };
        history = w.history;
        replied = ap (λ xs. xs ++ last_reply place f) w.replied ∙ ap (λ n. replies 0 w.calls w.answers ++ last_reply n f) w.behind;
      }

  -- under way: the input is read so far, or at its end
  abbrev pub UnderWay : ℕ → List ℕ → Marker B → Type 0
  UnderWay place output now = SoFar place output now ⊎ ((length input ≤ place) × Stream S start input output now)

  pub at_start : (place : ℕ) (output : List ℕ) → place ≡ 0 → output ≡ [] → UnderWay place output start
  at_start place output none nothing_out =
      subst (λ (p : ℕ). UnderWay p output start) (sym none) (subst (λ (xs : List ℕ). UnderWay 0 xs start) (sym nothing_out) (inl begun))

  -- where memory runs out
  pub broken_off : (place : ℕ) (output : List ℕ) (now : Marker B) → UnderWay place output now → ServedSoFar S start input now
  broken_off place output now (inl w) = (w.calls, w.answers, (w.lends, (drop place input, w.bytes)), w.history)
  broken_off place output now (inr (_, x)) = so_far S start input output now x

  -- after a record that was taken: the stream is under way with its reply put out, and there is less to read
  pub record Further (place place' : ℕ) (output reply : List ℕ) (now' : Marker B) : Type 0 where
    pub on : UnderWay place' (output ++ reply) now'
    pub less : length input - place' < length input - place

  module _ (place place' : ℕ) (output : List ℕ) (now now' : Marker B) where
    took : (f : Front) (reply : List ℕ) → UnderWay place output now → AtFront (drop place input) f → Does S input f place now (Some reply) place' now' →
        Further place place' output reply now'
    took (Ok None) reply u stands (is, _, _) = absurd cc
    took (Ok (Some r)) reply (inl w) stands (t, does, is, at) =
        let within = within_record input place r stands in
        let more : 0 < r.length = omega (arith, stands.1) in
        let same : reply ≡ reply_of place t = cc in
        record {
          on = inl
              (subst (λ (p : ℕ). SoFar p (output ++ reply) now') (sym at)
              (subst (λ (xs : List ℕ). SoFar (place + r.length) (output ++ xs) now') (sym same) (one_more place output now now' r t w stands does)));
          less = omega arith;
        }
    took (Ok (Some r)) reply (inr (beyond, _)) stands does =
        let within = within_record input place r stands in
        let more : 0 < r.length = omega (arith, stands.1) in
        absurd (omega arith)
    took (Err why) reply (inl w) stands (is, at, same) =
        let within = within_unreadable input place why stands in
        let told : reply ≡ last_reply place (Err why) = cc in
        record {
          on = inr (
            omega arith,
            subst (Stream S start input (output ++ reply)) (sym same)
                (subst (λ (xs : List ℕ). Stream S start input (output ++ xs) now) (sym told) (ended place output now (Err why) w stands tt)),
          );
          less = omega arith;
        }
    took (Err why) reply (inr (beyond, _)) stands does = let within = within_unreadable input place why stands in absurd (omega arith)

    -- no record was left: the stream is at its end
    finishes : (f : Front) → UnderWay place output now → AtFront (drop place input) f → Does S input f place now None place' now' → Stream S start input output now'
    finishes (Ok None) (inl w) stands (_, _, same) =
        subst (Stream S start input output) (sym same)
        (subst (λ (xs : List ℕ). Stream S start input xs now) (append-nil output) (ended place output now (Ok None) w stands tt))
    finishes (Ok None) (inr (_, x)) stands (_, _, same) = subst (Stream S start input output) (sym same) x
    finishes (Ok (Some r)) u stands (t, does, is, at) = absurd cc
    finishes (Err why) u stands (is, _, _) = absurd cc

-- the same of what the reader holds, which is the input
module _ {B : Type 0} (S : Sort B) (start : Marker B) {input held : List ℕ} (same : held ≡ input) {place : ℕ} {output : List ℕ} {now : Marker B} (u : UnderWay S start input place output now)
    {place' : ℕ} {now' : Marker B} where
  pub taken : (reply : List ℕ) → TakesRecord S held place now (Some reply) place' now' → Further S start input place place' output reply now'
  taken reply takes =
      let (f, stands, does) = subst (λ (xs : List ℕ). TakesRecord S xs place now (Some reply) place' now') same takes in
      took S start input place place' output now now' f reply u stands does

  pub finished : TakesRecord S held place now None place' now' → Stream S start input output now'
  finished takes =
      let (f, stands, does) = subst (λ (xs : List ℕ). TakesRecord S xs place now None place' now') same takes in
      finishes S start input place place' output now now' f u stands does

  module _ {found left : List ℕ} where
    -- a turn that replied with so many bytes of the buffer
    pub turned_on : (n : ℕ) (r : Option ℕ) → r ≡ Some n → Turned S held place found now (Ok r) place' left now' →
        Further S start input place place' output (take n left) now' × (n ≤ length left) × (length input ≤ 32768)
    turned_on n r is (inl (_, (refused, _, _, _))) = absurd (cc)
    turned_on n r is (inr (inl (_, _, (refused, _, _, _)))) = absurd (cc)
    turned_on n r is (inr (inr (small, _, (told, takes, replied)))) =
        let (there, within) = reply_there told found left n (subst (λ (x : Option ℕ). Replied told found (Ok x) left) is replied) in (
          taken (take n left) (subst (λ (x : Option (List ℕ)). TakesRecord S held place now x place' now') there takes),
          within,
          subst (λ (xs : List ℕ). length xs ≤ 32768) same small,
        )

    -- a turn that found no record
    pub turned_off : (r : Option ℕ) → r ≡ None → Turned S held place found now (Ok r) place' left now' → (length input ≤ 32768) × Stream S start input output now'
    turned_off r is (inl (_, (refused, _, _, _))) = absurd (cc)
    turned_off r is (inr (inl (_, _, (refused, _, _, _)))) = absurd (cc)
    turned_off r is (inr (inr (small, _, (told, takes, replied)))) =
        let none = no_reply told found left (subst (λ (x : Option ℕ). Replied told found (Ok x) left) is replied) in (
          subst (λ (xs : List ℕ). length xs ≤ 32768) same small,
          finished (subst (λ (x : Option (List ℕ)). TakesRecord S held place now x place' now') none takes),
        )

    -- a turn is refused only for an input that is too long, where the buffer is long enough
    pub refused : (why : Fault) → 1095 ≤ length found → Turned S held place found now (Err why) place' left now' →
        (32768 < length input) × (why ≡ reader_fault InputTooLong) × (now' ≡ now)
    refused why room (inl (long, (is, _, _, unchanged))) =
        let reason : why ≡ reader_fault InputTooLong = cc in (subst (λ (xs : List ℕ). 32768 < length xs) same long, reason, unchanged)
    refused why room (inr (inl (_, short, _))) = absurd (omega arith)
    refused why room (inr (inr (_, _, (told, _, replied)))) = never_refused told found left why replied
