-- What stands at a place of an input.
use Rattle.std.proofs.Common.{◌≡◌, ℕ, ◌+◌, ◌-◌, ◌<◌, ◌≤◌, List, ◌∷◌, ◌++◌, length, get_or, take, drop, Some, Ok, Err, sym, ap, ◌∙◌, arith, length-append, length-drop}
use Rattle.std.proofs.lemmas.List.{drop_more, take_rest, take-append-drop, length-take-le}
use Rattle.runs.specs.declared.call.Call.{Call}
use Rattle.reader.specs.declared.kind.Kind.{Kind}
use Rattle.reader.specs.declared.front.Record.{Record}
use Rattle.reader.specs.declared.unreadable.Unreadable.{Unreadable}
use Rattle.reader.specs.declared.unreadable.Unreadable.TheVariants as unreadable
use Rattle.reader.specs.Records.{AtFront, Lends64, kind_byte, body_length, record_of}

-- the byte at a place, and the bytes behind it
module _ (input : List ℕ) (place : ℕ) (within : place < length input) where
  abbrev pub body : List ℕ
  body = take (length input - (place + 1)) (drop (place + 1) input)

  pub byte_and_body : drop place input ≡ get_or input place 0 ∷ body
  byte_and_body = drop_more input place 0 within ∙ ap (λ xs. get_or input place 0 ∷ xs) (sym (take_rest input (place + 1)))

  -- a kind byte with less behind it than the body takes
  pub cut : (k : Kind) → kind_byte k ≡ get_or input place 0 → length body < body_length k → AtFront (drop place input) (Err unreadable.Cut)
  cut k is short = (k, body, byte_and_body ∙ ap (λ b. b ∷ body) (sym is), short)

  -- the record of a call
  pub whole : (k : Kind) (c : Call) (n : ℕ) → kind_byte k ≡ get_or input place 0 → n ≡ body_length k → body_length k ≤ length body →
      Lends64 c → record_of c ≡ kind_byte k ∷ take (body_length k) body → AtFront (drop place input) (Ok (Some (record { call = c; length = n + 1 })))
  whole k c n is count room lends record_is =
      let long : length (record_of c) ≡ body_length k + 1 = ap length record_is ∙ (let l = length-take-le (body_length k) body room in omega arith) in
      let split : kind_byte k ∷ take (body_length k) body ++ drop (body_length k) body ≡ kind_byte k ∷ body =
      ap (λ xs. kind_byte k ∷ xs) (take-append-drop (body_length k) body) in (
        lends,
        omega arith,
        (
          drop (body_length k) body,
          byte_and_body ∙ ap (λ b. b ∷ body) (sym is) ∙ sym split ∙ ap (λ xs. xs ++ drop (body_length k) body) (sym record_is),
        ),
      )

-- where something stands, the place is within the input; and so is all of a record
within_byte : (input : List ℕ) (place b : ℕ) (rest : List ℕ) → drop place input ≡ b ∷ rest → place < length input
within_byte input place b rest is = omega (arith, ap length is, length-drop place input)

pub within_unreadable : (input : List ℕ) (place : ℕ) (why : Unreadable) → AtFront (drop place input) (Err why) → place < length input
within_unreadable input place unreadable.Unknown (b, rest, is, _) = within_byte input place b rest is
within_unreadable input place unreadable.Cut (k, rest, is, _) = within_byte input place (kind_byte k) rest is

pub within_record : (input : List ℕ) (place : ℕ) (r : Record) → AtFront (drop place input) (Ok (Some r)) → place + r.length ≤ length input
within_record input place r (lends, long, (rest, is)) = omega (arith, long, ap length is, length-append (record_of r.call) rest, length-drop place input)
