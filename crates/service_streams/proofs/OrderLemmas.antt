-- Records are answered in their order, one stretch of a conversation after another.
use Rattle.std.proofs.Common.{◌≡◌, ◌≤◌, ℕ, List, [], ◌∷◌, ◌++◌, ◌-◌, append_assoc, append-nil, length, take, drop, Option, None, Some, Bool, true, false, Result, Ok, Err, inl, inr, arith, ap, refl, subst, sym, ◌∙◌, ltb, nat_lt, if◌then◌else◌}
use Rattle.std.proofs.lemmas.Bool.{ltb-false}
use Rattle.std.proofs.lemmas.List.{length-take}
use Rattle.std.proofs.lemmas.List.Elements.{All-append, All-cons, All-nil}
use Rattle.std.specs.Io.KnownBytes.{Appends, Consumes}
use Rattle.std.specs.declared.alloc.AllocError.{AllocError}
use Rattle.driver_service.specs.Answering.{AnswersRecord}
use Rattle.driver_service.specs.Calls.{Does}
use Rattle.driver_service.specs.declared.reason.Reason.{Reason}
use Rattle.driver_service.specs.declared.reason.Reason.TheVariants as reasons
use Rattle.service_records.specs.Framing.{cut_at, cut_of, framed, longest}
use Rattle.service_records.specs.Fields.{number_in}
use Rattle.service_records.specs.Request.{request_of}
use Rattle.service_records.specs.declared.fault.RecordFault.{RecordFault}
use Rattle.service_records.specs.declared.fault.RecordFault.TheVariants.{TooLong}
use Rattle.service_streams.specs.Order.{AnswersBody, AnswersEach, AnswersFirst, AnswersInOrder, Ends, EndsBy, IsBad, IsShort, IsWaiting, LeavesFor, MayLose, Moment, Party, Proceeds, SaysBye, Stretch, TakesLeave, all_framed, begun, bye_bytes, end_reason, welcome_bytes}
use Rattle.service_streams.specs.Streams.{AppendsFront, Drains, Flushes, Gets, Heard, Known, Reads, Told, all_heard, all_told}
use Rattle.service_streams.specs.declared.talking.Ended.{Ended}
use Rattle.service_streams.specs.declared.talking.Ended.TheVariants as ends
use Rattle.service_streams.specs.declared.talking.Greeting.{Greeting}
use Rattle.service_streams.proofs.StreamLemmas.{flush_drains, heard_then, rest_at, steps_then, told_then}

-- ---- records

-- a record that is cut is short
not_passed : {X : Type 0} (b : Bool) (x y z : X) → ((x ≡ z) → ⊥) → (if b then x else y) ≡ z → (b ≡ false) × (y ≡ z)
not_passed true x y z other is = absurd (other is)
not_passed false x y z other is = (refl, is)

abbrev Cutting : Type 0
Cutting = Result (Option (List ℕ × List ℕ)) RecordFault

bad_is_none : (bad : Cutting) (q : List ℕ × List ℕ) → bad ≡ Err TooLong → bad ≡ Ok (Some q) → ⊥
bad_is_none bad q bad_is is = cc

partial_is_none : (partial : Cutting) (q : List ℕ × List ℕ) → partial ≡ Ok None → partial ≡ Ok (Some q) → ⊥
partial_is_none partial q partial_is is = cc

abbrev front_of : List ℕ → Cutting → List ℕ
front_of other (Ok (Some p)) = p.0
front_of other (Ok None) = other
front_of other (Err e) = other

cut_at_short : (size : ℕ) (bytes body rest : List ℕ) → cut_at size bytes ≡ Ok (Some (body, rest)) → IsShort body
cut_at_short size bytes body rest is =
    let bad : Cutting = Err TooLong in
    let partial : Cutting = Ok None in
    let cut : Cutting = Ok (Some (take size bytes, drop size bytes)) in
    let given : Cutting = Ok (Some (body, rest)) in
    let first = not_passed (nat_lt longest size) bad (if nat_lt (length bytes) size then partial else cut) given (bad_is_none bad (body, rest) refl) is in
    let second = not_passed (nat_lt (length bytes) size) partial cut given (partial_is_none partial (body, rest) refl) first.1 in
    let same : take size bytes ≡ body = ap (front_of []) second.1 in
    let few : ltb longest size ≡ false = first.0 in
    subst (λ (l : List ℕ). length l ≤ longest) same (omega (arith, length-take size bytes, ltb-false longest size few))

pub cut_short : (bytes body rest : List ℕ) → cut_of bytes ≡ Ok (Some (body, rest)) → IsShort body
unfolding cut_of
cut_short bytes body rest is =
    let partial : Cutting = Ok None in
    let given : Cutting = Ok (Some (body, rest)) in
    let first = not_passed (nat_lt (length bytes) 4) partial (cut_at (number_in 4 bytes) (drop 4 bytes)) given (partial_is_none partial (body, rest) refl) is in
    cut_at_short (number_in 4 bytes) (drop 4 bytes) body rest first.1

framed_then : (xs ys : List (List ℕ)) → all_framed (xs ++ ys) ≡ all_framed xs ++ all_framed ys
framed_then [] ys = refl
framed_then (x ∷ xs) ys = ap (λ (l : List ℕ). framed x ++ l) (framed_then xs ys) ∙ sym (append_assoc (framed x) (all_framed xs) (all_framed ys))

each_then : {S : Type 0} (does : Does S) (xs ys : List (List ℕ)) (a b c : Party S) (bytes more : List ℕ) →
    AnswersEach does xs a b bytes → AnswersEach does ys b c more → AnswersEach does (xs ++ ys) a c (bytes ++ more)
each_then {S} does [] ys a b c bytes more first rest =
    let at : AnswersEach does ys a c more = subst (λ (s : Party S). AnswersEach does ys s c more) first.0 rest in
    subst (λ (l : List ℕ). AnswersEach does ys a c (l ++ more)) (sym first.1) at
each_then does (x ∷ xs) ys a b c bytes more first rest = (
  first.0,
  first.1,
  first.2 ++ more,
  first.3,
  each_then does xs ys first.0 b c first.2 more first.4 rest,
  ap (λ (l : List ℕ). l ++ more) first.5 ∙ append_assoc first.1 first.2 more,
)

-- ---- stretches

pub no_stretch : {S T : Type 0} (does : Does S) (remaining contents : Known T) (m : Moment S) (t : T) → Stretch does remaining contents m t m t
no_stretch does remaining contents m t = record {
  steps = [];
  taken = refl;
  bodies = [];
  short = All-nil IsShort;
  heard = append-nil m.left;
  bytes = [];
  answered = (refl, refl);
  told = sym (append-nil m.out);
}

pub stretch_then : {S T : Type 0} (does : Does S) (remaining contents : Known T) (a : Moment S) (r : T) (b : Moment S) (s : T) (c : Moment S) (t : T) →
    Stretch does remaining contents a r b s → Stretch does remaining contents b s c t → Stretch does remaining contents a r c t
stretch_then does remaining contents a r b s c t first rest =
    let h1 = all_heard first.steps in
    let h2 = all_heard rest.steps in
    let f1 = all_framed first.bodies in
    let f2 = all_framed rest.bodies in
    let t1 = all_told first.steps in
    let t2 = all_told rest.steps in
    record {
      steps = first.steps ++ rest.steps;
      taken = steps_then remaining contents first.steps rest.steps r s t first.taken rest.taken;
      bodies = first.bodies ++ rest.bodies;
      short = All-append IsShort first.bodies rest.bodies first.short rest.short;
      heard =
          ap (λ (l : List ℕ). a.left ++ l) (heard_then first.steps rest.steps)
          ∙ (sym (append_assoc a.left h1 h2)
          ∙ (ap (λ (l : List ℕ). l ++ h2) first.heard
          ∙ (append_assoc f1 b.left h2
          ∙ (ap (λ (l : List ℕ). f1 ++ l) rest.heard
          ∙ (sym (append_assoc f1 f2 c.left)
          ∙ ap (λ (l : List ℕ). l ++ c.left) (sym (framed_then first.bodies rest.bodies)))))));
      bytes = first.bytes ++ rest.bytes;
      answered = each_then does first.bodies rest.bodies a.party b.party c.party first.bytes rest.bytes first.answered rest.answered;
      told =
          ap (λ (l : List ℕ). l ++ c.out) (told_then first.steps rest.steps)
          ∙ (append_assoc t1 t2 c.out
          ∙ (ap (λ (l : List ℕ). t1 ++ l) rest.told
          ∙ (sym (append_assoc t1 b.out rest.bytes)
          ∙ (ap (λ (l : List ℕ). l ++ rest.bytes) first.told
          ∙ append_assoc a.out first.bytes rest.bytes))));
    }

-- one record is answered
one_answer : {S T : Type 0} (does : Does S) (remaining contents : Known T) (a b : Moment S) (t : T) (body answer : List ℕ) →
    IsShort body → a.left ≡ framed body ++ b.left → AnswersBody does body a.party b.party answer (Ok tt) → b.out ≡ a.out ++ answer →
    Stretch does remaining contents a t b t
one_answer does remaining contents a b t body answer short first answers out = record {
  steps = [];
  taken = refl;
  bodies = body ∷ [];
  short = All-cons IsShort body [] short (All-nil IsShort);
  heard = append-nil a.left ∙ (first ∙ ap (λ (l : List ℕ). l ++ b.left) (sym (append-nil (framed body))));
  bytes = answer;
  answered = (b.party, answer, [], answers, (refl, refl), sym (append-nil answer));
  told = out;
}

-- bytes are written of those that stand to be written
some_told : {S T : Type 0} (does : Does S) (remaining contents : Known T) (a b : Moment S) (s t : T) (front : List ℕ) →
    b.party ≡ a.party → b.left ≡ a.left → a.out ≡ front ++ b.out → Appends (contents s) (contents t) front → Stretch does remaining contents a s b t
some_told does remaining contents a b s t front party left out appended = record {
  steps = Told front ∷ [];
  taken = (t, appended, refl);
  bodies = [];
  short = All-nil IsShort;
  heard = append-nil a.left ∙ sym left;
  bytes = [];
  answered = (party, refl);
  told = ap (λ (l : List ℕ). l ++ b.out) (append-nil front) ∙ (sym out ∙ sym (append-nil a.out));
}

-- bytes are read
some_heard : {S T : Type 0} (does : Does S) (remaining contents : Known T) (a b : Moment S) (s t : T) (bytes : List ℕ) →
    b.party ≡ a.party → b.left ≡ a.left ++ bytes → b.out ≡ a.out → Consumes (remaining s) (remaining t) bytes → Stretch does remaining contents a s b t
some_heard does remaining contents a b s t bytes party left out consumed = record {
  steps = Heard bytes ∷ [];
  taken = (t, consumed, refl);
  bodies = [];
  short = All-nil IsShort;
  heard = ap (λ (l : List ℕ). a.left ++ l) (append-nil bytes) ∙ sym left;
  bytes = [];
  answered = (party, refl);
  told = out ∙ sym (append-nil a.out);
}

-- ---- answering all that is there

-- one more record
pub first_more : {S T : Type 0} (does : Does S) (remaining contents : Known T) (a : Moment S) (r : T) (b c : Moment S) (s : T) (told : Result Bool Ended) →
    Stretch does remaining contents a r b s → AnswersFirst does told b c → told ≡ Ok true → Stretch does remaining contents a r c s
first_more {S} does remaining contents a r b c s told so first is =
    let f = subst (λ (x : Result Bool Ended). AnswersFirst does x b c) is first in
    stretch_then does remaining contents a r b s c s so (one_answer does remaining contents b c s f.0 f.1 f.2 f.3 f.4 f.5)

-- it comes to its end
first_ends_by : {S T : Type 0} (does : Does S) (remaining contents : Known T) (a : Moment S) (r : T) (b c : Moment S) (s : T) (ended : Ended) →
    Stretch does remaining contents a r b s → AnswersFirst does (Err ended) b c → Ends does remaining contents ended a r c s
first_ends_by does remaining contents a r b c s ends.Closed so first = absurd first
first_ends_by does remaining contents a r b c s ends.Silent so first = absurd first
first_ends_by {S} does remaining contents a r b c s ends.TooLong so first =
    let same = sym first.0 in (
      subst (λ (m : Moment S). Stretch does remaining contents a r m s) same so,
      subst (λ (m : Moment S). IsBad m.left) same first.1,
    )
first_ends_by does remaining contents a r b c s (ends.Gone reason) so first = absurd first
first_ends_by does remaining contents a r b c s ends.Stopped so first = absurd first
first_ends_by does remaining contents a r b c s ends.NoMemory so first = (b, so, first.1, inr first.2)

pub first_ends : {S T : Type 0} (does : Does S) (remaining contents : Known T) (a : Moment S) (r : T) (b c : Moment S) (s : T) (told : Result Bool Ended) (ended : Ended) →
    Stretch does remaining contents a r b s → AnswersFirst does told b c → told ≡ Err ended → Ends does remaining contents ended a r c s
first_ends does remaining contents a r b c s told ended so first is =
    first_ends_by does remaining contents a r b c s ended so (subst (λ (x : Result Bool Ended). AnswersFirst does x b c) is first)

-- what is to be written is written, and it goes on
pub drained : {S T : Type 0} (does : Does S) (remaining contents : Known T) (a : Moment S) (r : T) (b c : Moment S) (s t : T) (told : Result Unit Ended) →
    Stretch does remaining contents a r b s → c.party ≡ b.party → c.left ≡ b.left →
    Drains told (contents s) (contents t) b.out c.out → told ≡ Ok tt → Stretch does remaining contents a r c t
drained does remaining contents a r b c s t told so party left drains is =
    let f = subst (λ (x : Result Unit Ended). Drains x (contents s) (contents t) b.out c.out) is drains in
    stretch_then does remaining contents a r b s c t so (some_told does remaining contents b c s t f.front party left f.whole f.appended)

-- or the other end is closed
flush_ends_by : {S T : Type 0} (does : Does S) (remaining contents : Known T) (a : Moment S) (r : T) (b c : Moment S) (s t : T) (ended : Ended) →
    Stretch does remaining contents a r b s → c.party ≡ b.party →
    Drains (Err ended) (contents s) (contents t) b.out c.out → Ends does remaining contents ended a r c t
flush_ends_by {S} does remaining contents a r b c s t ends.Closed so party flushes =
    let closed : Moment S = record { party = c.party; left = b.left; out = flushes.1 } in (
      b.left,
      flushes.1,
      stretch_then does remaining contents a r b s closed t so
          (some_told does remaining contents b closed s t flushes.0 party refl flushes.2 flushes.3),
    )
flush_ends_by does remaining contents a r b c s t ends.Silent so party flushes = absurd flushes
flush_ends_by does remaining contents a r b c s t ends.TooLong so party flushes = absurd flushes
flush_ends_by does remaining contents a r b c s t (ends.Gone reason) so party flushes = absurd flushes
flush_ends_by does remaining contents a r b c s t ends.Stopped so party flushes = absurd flushes
flush_ends_by does remaining contents a r b c s t ends.NoMemory so party flushes = absurd flushes

pub flush_ends : {S T : Type 0} (does : Does S) (remaining contents : Known T) (a : Moment S) (r : T) (b c : Moment S) (s t : T) (told : Result Unit Ended) (ended : Ended) →
    Stretch does remaining contents a r b s → c.party ≡ b.party →
    Drains told (contents s) (contents t) b.out c.out → told ≡ Err ended → Ends does remaining contents ended a r c t
flush_ends does remaining contents a r b c s t told ended so party drains is =
    flush_ends_by does remaining contents a r b c s t ended so party
    (subst (λ (x : Result Unit Ended). Drains x (contents s) (contents t) b.out c.out) is drains)

-- no record is left
pub waits : {S T : Type 0} (does : Does S) (remaining contents : Known T) (a : Moment S) (r : T) (b m c : Moment S) (s t : T) (first : Result Bool Ended) (told : Result Unit Ended) →
    Stretch does remaining contents a r b s → AnswersFirst does first b m → first ≡ Ok false → c.party ≡ m.party → c.left ≡ m.left →
    Flushes told (contents s) (contents t) m.out c.out → Proceeds does remaining contents told a r c t
waits {S} does remaining contents a r b m c s t first (Ok x) so answers is party left flushes =
    let f = subst (λ (x : Result Bool Ended). AnswersFirst does x b m) is answers in
    let at = subst (λ (n : Moment S). Stretch does remaining contents a r n s) (sym f.0) so in
    let done = drained does remaining contents a r m c s t (Ok x) at party left (flush_drains (Ok x) (contents s) (contents t) m.out c.out flushes) refl in
    let none = subst (λ (n : Moment S). IsWaiting n.left) (sym f.0) f.1 in
    (done, flushes.1, subst IsWaiting (sym left) none)
waits {S} does remaining contents a r b m c s t first (Err ended) so answers is party left flushes =
    let f = subst (λ (x : Result Bool Ended). AnswersFirst does x b m) is answers in
    let at = subst (λ (n : Moment S). Stretch does remaining contents a r n s) (sym f.0) so in
    flush_ends_by does remaining contents a r m c s t ended at party (flush_drains (Err ended) (contents s) (contents t) m.out c.out flushes)

-- ---- reading on

pub read_more : {S T : Type 0} (does : Does S) (remaining contents : Known T) (a : Moment S) (r : T) (b c : Moment S) (s t : T) (told : Result Unit Ended) →
    Stretch does remaining contents a r b s → c.party ≡ b.party → c.out ≡ b.out →
    Reads told (remaining s) (remaining t) b.left c.left → told ≡ Ok tt → Stretch does remaining contents a r c t
read_more does remaining contents a r b c s t told so party out reads is =
    let gets = subst (λ (x : Result Unit Ended). Gets x reads.bytes b.left c.left) is reads.gets in
    stretch_then does remaining contents a r b s c t so (some_heard does remaining contents b c s t reads.bytes party gets out reads.consumed)

-- nothing more is read
none_heard : {S T : Type 0} (does : Does S) (remaining contents : Known T) (a : Moment S) (r : T) (b c : Moment S) (s t : T) (bytes : List ℕ) →
    Stretch does remaining contents a r b s → c.party ≡ b.party → c.out ≡ b.out → c.left ≡ b.left → bytes ≡ [] →
    Consumes (remaining s) (remaining t) bytes → Stretch does remaining contents a r c t
none_heard does remaining contents a r b c s t bytes so party out left none consumed =
    stretch_then does remaining contents a r b s c t so
    (some_heard does remaining contents b c s t bytes party (left ∙ (sym (append-nil b.left) ∙ ap (λ (l : List ℕ). b.left ++ l) (sym none))) out consumed)

read_ends_by : {S T : Type 0} (does : Does S) (remaining contents : Known T) (a : Moment S) (r : T) (b c : Moment S) (s t : T) (ended : Ended) →
    Stretch does remaining contents a r b s → b.out ≡ [] → IsWaiting b.left → c.party ≡ b.party → c.out ≡ b.out →
    Reads (Err ended) (remaining s) (remaining t) b.left c.left → Ends does remaining contents ended a r c t
read_ends_by does remaining contents a r b c s t ends.Closed so all waiting party out reads = (
  c.left,
  c.out,
  none_heard does remaining contents a r b c s t reads.bytes so party out reads.gets.1 reads.gets.0 reads.consumed,
)
read_ends_by does remaining contents a r b c s t ends.Silent so all waiting party out reads = (
  none_heard does remaining contents a r b c s t reads.bytes so party out reads.gets.1 reads.gets.0 reads.consumed,
  out ∙ all,
  subst IsWaiting (sym reads.gets.1) waiting,
)
read_ends_by does remaining contents a r b c s t ends.TooLong so all waiting party out reads = absurd reads.gets
read_ends_by does remaining contents a r b c s t (ends.Gone reason) so all waiting party out reads = absurd reads.gets
read_ends_by does remaining contents a r b c s t ends.Stopped so all waiting party out reads = absurd reads.gets
read_ends_by {S} does remaining contents a r b c s t ends.NoMemory so all waiting party out reads =
    let last : Moment S = record { party = c.party; left = b.left ++ reads.bytes; out = c.out } in (
      last,
      stretch_then does remaining contents a r b s last t so (some_heard does remaining contents b last s t reads.bytes party refl out reads.consumed),
      refl,
      inl refl,
    )

pub read_ends : {S T : Type 0} (does : Does S) (remaining contents : Known T) (a : Moment S) (r : T) (b c : Moment S) (s t : T) (told : Result Unit Ended) (ended : Ended) →
    Stretch does remaining contents a r b s → b.out ≡ [] → IsWaiting b.left → c.party ≡ b.party → c.out ≡ b.out →
    Reads told (remaining s) (remaining t) b.left c.left → told ≡ Err ended → Ends does remaining contents ended a r c t
read_ends does remaining contents a r b c s t told ended so all waiting party out reads is =
    read_ends_by does remaining contents a r b c s t ended so all waiting party out
    (subst (λ (x : Result Unit Ended). Reads x (remaining s) (remaining t) b.left c.left) is reads)

-- whatever came, it may have been stopped meanwhile
pub stops : {S T : Type 0} (does : Does S) (remaining contents : Known T) (a : Moment S) (r : T) (b c : Moment S) (s t : T) (told : Result Unit Ended) →
    Stretch does remaining contents a r b s → c.party ≡ b.party → c.out ≡ b.out →
    Reads told (remaining s) (remaining t) b.left c.left → Ends does remaining contents ends.Stopped a r c t
stops {S} does remaining contents a r b c s t told so party out reads =
    let last : Moment S = record { party = c.party; left = b.left ++ reads.bytes; out = c.out } in (
      last.left,
      stretch_then does remaining contents a r b s last t so (some_heard does remaining contents b last s t reads.bytes party refl out reads.consumed),
    )

-- what came before is part of it
pub ends_on : {S T : Type 0} (does : Does S) (remaining contents : Known T) (a : Moment S) (r : T) (b c : Moment S) (s t : T) (ended : Ended) →
    Stretch does remaining contents a r b s → Ends does remaining contents ended b s c t → Ends does remaining contents ended a r c t
ends_on does remaining contents a r b c s t ends.Closed so rest = (
  rest.0,
  rest.1,
  stretch_then does remaining contents a r b s (record { party = c.party; left = rest.0; out = rest.1 }) t so rest.2,
)
ends_on does remaining contents a r b c s t ends.Silent so rest = (stretch_then does remaining contents a r b s c t so rest.0, rest.1, rest.2)
ends_on does remaining contents a r b c s t ends.TooLong so rest = (stretch_then does remaining contents a r b s c t so rest.0, rest.1)
ends_on does remaining contents a r b c s t (ends.Gone reason) so rest = stretch_then does remaining contents a r b s c t so rest
ends_on does remaining contents a r b c s t ends.Stopped so rest = (
  rest.0,
  stretch_then does remaining contents a r b s (record { party = c.party; left = rest.0; out = c.out }) t so rest.1,
)
ends_on does remaining contents a r b c s t ends.NoMemory so rest = (
  rest.0,
  stretch_then does remaining contents a r b s rest.0 t so rest.1,
  rest.2,
  rest.3,
)

pub proceeds_ends : {S T : Type 0} (does : Does S) (remaining contents : Known T) (a : Moment S) (r : T) (b c : Moment S) (s t : T) (told : Result Unit Ended) (ended : Ended) →
    Stretch does remaining contents a r b s → Proceeds does remaining contents told b s c t → told ≡ Err ended → Ends does remaining contents ended a r c t
proceeds_ends {S} {T} does remaining contents a r b c s t told ended so rest is =
    ends_on does remaining contents a r b c s t ended so (subst (λ (x : Result Unit Ended). Proceeds does remaining contents x b s c t) is rest)

pub proceeds_on : {S T : Type 0} (does : Does S) (remaining contents : Known T) (a : Moment S) (r : T) (b c : Moment S) (s t : T) (told : Result Unit Ended) →
    Stretch does remaining contents a r b s → Proceeds does remaining contents told b s c t → told ≡ Ok tt →
    Stretch does remaining contents a r c t × (c.out ≡ []) × IsWaiting c.left
proceeds_on does remaining contents a r b c s t told so rest is =
    let went = subst (λ (x : Result Unit Ended). Proceeds does remaining contents x b s c t) is rest in
    (stretch_then does remaining contents a r b s c t so went.0, went.1, went.2)

-- ---- a whole conversation

-- what stands to be written does not matter to it
lose_at : {S : Type 0} (does : Does S) (last : Moment S) (new : Party S) (out : List ℕ) → MayLose does last new → MayLose does (record { party = last.party; left = last.left; out = out }) new
lose_at does last new out lose =
    elim lose [ inl same ↦ inl same | inr l ↦ inr (record { body = l.body; rest = l.rest; short = l.short; first = l.first; answer = l.answer; told = l.told; acted = l.acted }) ]

-- the other end closes while what is to be written is written
breaks : {S T : Type 0} (does : Does S) (remaining contents : Known T) (greeting : Greeting) (old : Party S) (last : Moment S) (new : Party S) (r s t : T) (out : List ℕ) →
    Stretch does remaining contents (begun greeting old) r last s → last.out ≡ out → MayLose does last new → AppendsFront (contents s) (contents t) out →
    AnswersInOrder does remaining contents greeting ends.Closed old new r t
breaks {S} does remaining contents greeting old last new r s t out so is lose front =
    let after : Moment S = record { party = last.party; left = last.left; out = front.1 } in
    record {
      last = after;
      stretch =
          stretch_then does remaining contents (begun greeting old) r last s after t so
          (some_told does remaining contents last after s t front.0 refl refl (is ∙ front.2) front.3);
      lost = lose_at does last new front.1 lose;
    }

-- it says why
says : {S T : Type 0} (does : Does S) (remaining contents : Known T) (greeting : Greeting) (reason : Reason) (P : Moment S → Type 0) (old : Party S) (last : Moment S) (r s t : T) (out : List ℕ) →
    Stretch does remaining contents (begun greeting old) r last s → last.out ≡ out → P (record { party = last.party; left = last.left; out = [] }) →
    SaysBye contents reason s t out → EndsBy does remaining contents greeting reason P old r t
says {S} does remaining contents greeting reason P old last r s t out so is holds bye =
    let after : Moment S = record { party = last.party; left = last.left; out = [] } in
    record {
      last = after;
      between = bye.between;
      stretch =
          stretch_then does remaining contents (begun greeting old) r last s after bye.between so
          (some_told does remaining contents last after s bye.between out refl refl (is ∙ sym (append-nil out)) bye.all);
      all = refl;
      so = holds;
      bye = bye.bye;
    }

-- all that is said is said in order
pub in_order : {S T : Type 0} (does : Does S) (remaining contents : Known T) (greeting : Greeting) (old : Party S) (new : Moment S) (r s t : T) (ended result : Ended) →
    Ends does remaining contents ended (begun greeting old) r new s → TakesLeave contents ended result s t new.out →
    AnswersInOrder does remaining contents greeting result old new.party r t
in_order {S} {T} does remaining contents greeting old new r s t ends.Closed result so leave =
    let last : Moment S = record { party = new.party; left = so.0; out = so.1 } in
    let at = subst (λ (x : T). Stretch does remaining contents (begun greeting old) r last x) (sym leave.1) so.2 in
    subst (λ (e : Ended). AnswersInOrder does remaining contents greeting e old new.party r t) (sym leave.0) (record { last = last; stretch = at; lost = inl refl })
in_order {S} does remaining contents greeting old new r s t ends.Silent result so leave =
    elim leave [
      | inl bye ↦
          subst (λ (e : Ended). AnswersInOrder does remaining contents greeting e old new.party r t) (sym bye.0)
          (says does remaining contents greeting reasons.WrongClient (λ (last : Moment S). (new.party ≡ last.party) × IsWaiting last.left) old new r s t new.out so.0 refl (refl, so.2) bye.1)
      | inr closed ↦
          subst (λ (e : Ended). AnswersInOrder does remaining contents greeting e old new.party r t) (sym closed.0)
          (breaks does remaining contents greeting old new new.party r s t new.out so.0 refl (inl refl) closed.1)
    ]
in_order {S} does remaining contents greeting old new r s t ends.TooLong result so leave =
    elim leave [
      | inl bye ↦
          subst (λ (e : Ended). AnswersInOrder does remaining contents greeting e old new.party r t) (sym bye.0)
          (says does remaining contents greeting reasons.TooLong (λ (last : Moment S). (new.party ≡ last.party) × IsBad last.left) old new r s t new.out so.0 refl (refl, so.1) bye.1)
      | inr closed ↦
          subst (λ (e : Ended). AnswersInOrder does remaining contents greeting e old new.party r t) (sym closed.0)
          (breaks does remaining contents greeting old new new.party r s t new.out so.0 refl (inl refl) closed.1)
    ]
in_order {S} does remaining contents greeting old new r s t (ends.Gone reason) result so leave =
    elim leave [
      | inl bye ↦
          subst (λ (e : Ended). AnswersInOrder does remaining contents greeting e old new.party r t) (sym bye.0)
          (says does remaining contents greeting reason (λ (last : Moment S). new.party ≡ last.party) old new r s t new.out so refl refl bye.1)
      | inr closed ↦
          subst (λ (e : Ended). AnswersInOrder does remaining contents greeting e old new.party r t) (sym closed.0)
          (breaks does remaining contents greeting old new new.party r s t new.out so refl (inl refl) closed.1)
    ]
in_order {S} does remaining contents greeting old new r s t ends.Stopped result so leave =
    let last : Moment S = record { party = new.party; left = so.0; out = new.out } in
    elim leave [
      | inl bye ↦
          subst (λ (e : Ended). AnswersInOrder does remaining contents greeting e old new.party r t) (sym bye.0)
          (says does remaining contents greeting reasons.Stopped (λ (m : Moment S). new.party ≡ m.party) old last r s t new.out so.1 refl refl bye.1)
      | inr closed ↦
          subst (λ (e : Ended). AnswersInOrder does remaining contents greeting e old new.party r t) (sym closed.0)
          (breaks does remaining contents greeting old last new.party r s t new.out so.1 refl (inl refl) closed.1)
    ]
in_order {S} does remaining contents greeting old new r s t ends.NoMemory result so leave =
    let last = so.0 in
    elim leave [
      | inl bye ↦
          subst (λ (e : Ended). AnswersInOrder does remaining contents greeting e old new.party r t) (sym bye.0)
          (inr (says does remaining contents greeting reasons.NoMemory (λ (m : Moment S). MayLose does m new.party) old last r s t new.out so.1 (sym so.2) (lose_at does last new.party [] so.3) bye.1))
      | inr closed ↦
          subst (λ (e : Ended). AnswersInOrder does remaining contents greeting e old new.party r t) (sym closed.0)
          (breaks does remaining contents greeting old last new.party r s t new.out so.1 (sym so.2) so.3 closed.1)
    ]

-- nothing was said
pub nothing_said : {S T : Type 0} (does : Does S) (remaining contents : Known T) (greeting : Greeting) (old : Party S) (t : T) →
    AnswersInOrder does remaining contents greeting ends.NoMemory old old t t
nothing_said does remaining contents greeting old t = inl (refl, refl)

-- ---- taking leave

-- nothing is said
pub leaves_quiet : {T : Type 0} (contents : Known T) (ended : Ended) (t : T) (out : List ℕ) → end_reason ended ≡ None → TakesLeave contents ended ended t t out
leaves_quiet contents ended t out none = subst (λ (r : Option Reason). LeavesFor contents r ended ended t t out) (sym none) (refl, refl)

closed_by : (result : Ended) (a b : Option (List ℕ)) (out after : List ℕ) → Flushes (Err result) a b out after → (result ≡ ends.Closed) × AppendsFront a b out
closed_by ends.Closed a b out after flushes = (refl, flushes)
closed_by ends.Silent a b out after flushes = absurd flushes
closed_by ends.TooLong a b out after flushes = absurd flushes
closed_by (ends.Gone reason) a b out after flushes = absurd flushes
closed_by ends.Stopped a b out after flushes = absurd flushes
closed_by ends.NoMemory a b out after flushes = absurd flushes

-- the other end closes meanwhile
pub leaves_closed : {T : Type 0} (contents : Known T) (reason : Reason) (ended result : Ended) (s t : T) (out after : List ℕ) (told : Result Unit Ended) →
    end_reason ended ≡ Some reason → Flushes told (contents s) (contents t) out after → told ≡ Err result → TakesLeave contents ended result s t out
leaves_closed contents reason ended result s t out after told why flushes is =
    let f = subst (λ (x : Result Unit Ended). Flushes x (contents s) (contents t) out after) is flushes in
    subst (λ (r : Option Reason). LeavesFor contents r ended result s t out) (sym why) (inr (closed_by result (contents s) (contents t) out after f))

-- all is said
pub leaves_said : {T : Type 0} (contents : Known T) (reason : Reason) (ended : Ended) (s m t : T) (out after : List ℕ) (told : Result Unit Ended) →
    end_reason ended ≡ Some reason → Flushes told (contents s) (contents m) out after → told ≡ Ok tt →
    AppendsFront (contents m) (contents t) (bye_bytes reason) → TakesLeave contents ended ended s t out
leaves_said contents reason ended s m t out after told why flushes is bye =
    let f = subst (λ (x : Result Unit Ended). Flushes x (contents s) (contents m) out after) is flushes in
    subst (λ (r : Option Reason). LeavesFor contents r ended ended s t out) (sym why)
    (inl (refl, record { between = m; all = f.0; bye = bye }))

-- ---- beginning

abbrev moment : {S : Type 0} → Party S → List ℕ → List ℕ → Moment S
moment party left out = record { party = party; left = left; out = out }

-- with empty buffers, and the greeting
pub begins : {S : Type 0} (party : Party S) (greeting : Greeting) (at : ℕ) (input out : List ℕ) → input ≡ [] → at ≡ 0 → out ≡ welcome_bytes greeting →
    moment party (drop at input) out ≡ begun greeting party
begins party greeting at input out none zero whole =
    ap (λ (n : ℕ). moment party (drop n input) out) zero
    ∙ (ap (λ (l : List ℕ). moment party l out) none ∙ ap (λ (l : List ℕ). moment party [] l) whole)

-- ---- the first record

-- it is answered
pub answers_it : {S : Type 0} (does : Does S) (old new : Party S) (at : ℕ) (input body rest out after before answer : List ℕ) (told : Result Unit AllocError) →
    drop at input ≡ framed body ++ rest → cut_of (drop at input) ≡ Ok (Some (body, rest)) →
    AnswersRecord does (request_of body) old.1 new.1 old.0 new.0 before answer told → before ≡ [] → told ≡ Ok tt → after ≡ out ++ answer →
    AnswersFirst does (Ok true) (moment old (drop at input) out) (moment new (drop (length input - length rest) input) after)
answers_it does old new at input body rest out after before answer told front cut answers empty well appended =
    let from = subst (λ (b : List ℕ). AnswersRecord does (request_of body) old.1 new.1 old.0 new.0 b answer told) empty answers in
    let whole = subst (λ (r : Result Unit AllocError). AnswersRecord does (request_of body) old.1 new.1 old.0 new.0 [] answer r) well from in (
      body,
      answer,
      cut_short (drop at input) body rest cut,
      front ∙ ap (λ (l : List ℕ). framed body ++ l) (sym (rest_at at input (framed body) rest front)),
      whole,
      appended,
    )

-- or there is no memory for its answer
pub loses_it : {S : Type 0} (does : Does S) (old new : Party S) (left body rest out after before answer : List ℕ) (told : Result Unit AllocError) →
    left ≡ framed body ++ rest → cut_of left ≡ Ok (Some (body, rest)) →
    AnswersRecord does (request_of body) old.1 new.1 old.0 new.0 before answer told → before ≡ [] → after ≡ out →
    AnswersFirst does (Err ends.NoMemory) (moment old left out) (moment new left after)
loses_it does old new left body rest out after before answer told front cut answers empty same = (
  refl,
  same,
  record {
    body = body;
    rest = rest;
    short = cut_short left body rest cut;
    first = front;
    answer = answer;
    told = told;
    acted = subst (λ (b : List ℕ). AnswersRecord does (request_of body) old.1 new.1 old.0 new.0 b answer told) empty answers;
  },
)
