-- What a turn sends and reads, act by act.
use Rattle.std.proofs.Common.{◌≡◌, ℕ, ◌+◌, ◌<◌, Bool, true, false, List, [], ◌∷◌, ◌++◌, Option, Some, None, inl, inr, refl, sym, ap, subst, ◌∙◌, append_assoc, get_or, length, take, filter, map, cond}
use Rattle.std.proofs.lemmas.List.{append-nil, map-append, take_more}
use Rattle.std.proofs.lemmas.List.Elements.{filter-append}
use Rattle.std.specs.Prelude.{Result, Ok, Err, is_err}
use Rattle.channel_uri.specs.declared.address.Address.{Address}
use Rattle.drop_tallies.specs.declared.miss.Miss.{Miss}
use Rattle.drop_tallies.specs.declared.miss.Miss.TheVariants.{Unheard, Unsent}
use Rattle.frame_codec.specs.Datagram.{Content}
use Rattle.media_agents.specs.Acts.{Access, Act, Alone, GoesOn, Then, Trail, Writes, called, shared}
use Rattle.media_agents.specs.declared.journal.Journal.{Journal}
use Rattle.media_agents.specs.declared.stepping.Stepped.{Stepped}
use Rattle.media_agents.specs.Journals.{after_miss, after_packet}
use Rattle.media_agents.specs.Stepping.{HearsIf}
use Rattle.media_agents.specs.Traffic.{AreTried, Fails, IsReading, IsTried, Takes, letters_to}
use Rattle.media_agents.proofs.ActLemmas.{alone, calls, goes_on, goes_on_as, goes_then, stays, then_none}
use Rattle.media_wire.specs.Events.{Event, failed, nothing, read, read_event, sent, sent_event}
use Rattle.media_wire.specs.Letters.{letter}
use Rattle.media_wire.specs.declared.letter.Letter.{Letter}
use Rattle.media_wire.specs.declared.wire.WireFault.{WireFault}
use Rattle.published_registry.specs.Histories.{History}

-- ---- what is sent

pub tried_append : (first then : List Letter) (a b : List Act) → AreTried first a → AreTried then b → AreTried (first ++ then) (a ++ b)
tried_append [] then a b one two = subst (λ (a : List Act). AreTried then (a ++ b)) (sym one) two
tried_append (it ∷ first) then a b one two = (
  one.0,
  one.1 ++ b,
  ap (λ (a : List Act). a ++ b) one.2 ∙ append_assoc one.0 one.1 b,
  one.3,
  tried_append first then one.1 b one.4 two,
)

pub tried_one : (it : Letter) (a : List Act) → IsTried it a → AreTried (it ∷ []) a
tried_one it a tried = (a, [], sym (append-nil a), tried, refl)

-- a call failed, and that was counted
pub fails : (miss : Miss) (address : Address) (a b : List Act) → a ≡ called failed ∷ [] → Alone (Writes (after_miss miss address)) b
    → Fails miss address (a ++ b)
fails miss address a b call noted =
    (noted.1.0, ap (λ (a : List Act). a ++ b) call ∙ ap (λ (b : List Act). called failed ∷ b) (noted.2 ∙ ap (map shared) noted.1.1))

-- it was sent
pub was_sent : (it : Letter) (result : Result Unit WireFault) (did : List Access → Type 0) (old new : List Event → Type 0)
    → is_err result ≡ false → ((events : List Event) → old events → new (events ++ sent_event it result ∷ []))
    → GoesOn (IsTried it) (Trail did old) (Trail did new)
was_sent it (Ok done) did old new fine = calls (IsTried it) did old new (sent it) (inl refl)
was_sent it (Err fault) did old new fine = absurd (let e : true ≡ false = fine in cc)

-- it was not, and that was counted
pub was_lost : (it : Letter) (result : Result Unit WireFault) (did noted : List Access → Type 0) (old new : List Event → Type 0)
    → is_err result ≡ true → ((events : List Event) → old events → new (events ++ sent_event it result ∷ []))
    → GoesOn (Writes (after_miss Unsent it.to)) did noted
    → GoesOn (IsTried it) (Trail did old) (Trail noted new)
was_lost it (Ok done) did noted old new bad step notes = absurd (let e : false ≡ true = bad in cc)
was_lost it (Err fault) did noted old new bad step notes =
    goes_on (λ (acts : List Act). acts ≡ called failed ∷ []) (Alone (Writes (after_miss Unsent it.to))) (IsTried it) (Trail did old) (Trail did new) (Trail noted new)
    (λ a b one two. inr (fails Unsent it.to a b one two))
    (calls (λ (acts : List Act). acts ≡ called failed ∷ []) did old new failed refl step)
    (alone (Writes (after_miss Unsent it.to)) did noted new notes)

-- one more goes out
pub sends_more : (before after : List Letter) (it : Letter) (old between new : List Act → Type 0)
    → after ≡ before ++ it ∷ []
    → GoesOn (AreTried before) old between
    → GoesOn (IsTried it) between new
    → GoesOn (AreTried after) old new
sends_more before after it old between new is =
    goes_on (AreTried before) (IsTried it) (AreTried after) old between new
    (λ a b one two. subst (λ (all : List Letter). AreTried all (a ++ b)) (sym is) (tried_append before (it ∷ []) a b one (tried_one it b two)))

-- one more of so many
pub more_to : (local to : Address) (datagrams : List (List ℕ)) (at : ℕ) (one : List ℕ) → at < length datagrams → one ≡ get_or datagrams at one
    → letters_to local to (take (at + 1) datagrams) ≡ letters_to local to (take at datagrams) ++ letter local to one ∷ []
more_to local to datagrams at one within is =
    ap (map (letter local to)) (take_more datagrams at one within)
    ∙ map-append (letter local to) (take at datagrams) (get_or datagrams at one ∷ [])
    ∙ ap (λ (last : List ℕ). letters_to local to (take at datagrams) ++ letter local to last ∷ []) (sym is)

pub tried_none : (old : List Act → Type 0) → GoesOn (AreTried []) old old
tried_none old = stays (AreTried []) old refl

-- of some things those go out that may, each as its datagram
module _ {X : Type 0} (of : X → Letter) (goes : X → Bool) where
  abbrev pub letters_gone : List X → List Letter
  letters_gone xs = map of (filter goes xs)

  gone-append : (a b : List X) → letters_gone (a ++ b) ≡ letters_gone a ++ letters_gone b
  gone-append a b = ap (map of) (filter-append goes a b) ∙ map-append of (filter goes a) (filter goes b)

  -- one more of them
  pub out_more : (xs : List X) (at : ℕ) (one : X) (old between new : List Act → Type 0) → at < length xs
      → GoesOn (AreTried (letters_gone (take at xs))) old between
      → GoesOn (AreTried (letters_gone (get_or xs at one ∷ []))) between new
      → GoesOn (AreTried (letters_gone (take (at + 1) xs))) old new
  out_more xs at one old between new within =
      let before = letters_gone (take at xs) in
      let last = letters_gone (get_or xs at one ∷ []) in
      let whole : letters_gone (take (at + 1) xs) ≡ before ++ last =
      ap letters_gone (take_more xs at one within) ∙ gone-append (take at xs) (get_or xs at one ∷ []) in
      goes_on (AreTried before) (AreTried last) (AreTried (letters_gone (take (at + 1) xs))) old between new
      (λ a b one two. subst (λ (all : List Letter). AreTried all (a ++ b)) (sym whole) (tried_append before last a b one two))

  -- it goes out, if it may
  gone_is : (x : X) (b : Bool) → goes x ≡ b → letters_gone (x ∷ []) ≡ map of (cond b (x ∷ []) [])
  gone_is x b is = ap (λ (b : Bool). map of (cond b (x ∷ []) [])) is

  pub goes_if : (x : X) (old new : List Act → Type 0) → goes x ≡ true → GoesOn (IsTried (of x)) old new
      → GoesOn (AreTried (letters_gone (x ∷ []))) old new
  goes_if x old new allowed tried =
      subst (λ (all : List Letter). GoesOn (AreTried all) old new) (sym (gone_is x true allowed))
      (goes_on_as (IsTried (of x)) (AreTried (of x ∷ [])) old new (tried_one (of x)) tried)

  pub withheld_if : (x : X) (old : List Act → Type 0) → goes x ≡ false → GoesOn (AreTried (letters_gone (x ∷ []))) old old
  withheld_if x old withheld =
      subst (λ (all : List Letter). GoesOn (AreTried all) old old) (sym (gone_is x false withheld)) (tried_none old)

-- ---- what is read

read_as : (at : Address) (bytes : List ℕ) (did : List Access → Type 0) (old new : List Event → Type 0) (it : Option (ℕ × Address))
    → ((events : List Event) → old events → new (events ++ read_event at bytes (Ok it) ∷ []))
    → GoesOn (IsReading at it bytes) (Trail did old) (Trail did new)
read_as at bytes did old new None = calls (IsReading at None bytes) did old new (nothing at) (inl refl)
read_as at bytes did old new (Some datagram) =
    calls (IsReading at (Some datagram) bytes) did old new (read (letter datagram.1 at (take datagram.0 bytes))) refl

-- a datagram was there, or none
pub was_read : (at : Address) (it : Option (ℕ × Address)) (bytes buffer : List ℕ) (result : Result (Option (ℕ × Address)) WireFault)
    (did : List Access → Type 0) (old new : List Event → Type 0) → buffer ≡ bytes → result ≡ Ok it
    → ((events : List Event) → old events → new (events ++ read_event at buffer result ∷ []))
    → GoesOn (IsReading at it bytes) (Trail did old) (Trail did new)
was_read at it bytes buffer result did old new same is step =
    read_as at bytes did old new it (subst (λ (bytes : List ℕ). (events : List Event) → old events → new (events ++ read_event at bytes (Ok it) ∷ [])) same
    (subst (λ (result : Result (Option (ℕ × Address)) WireFault). (events : List Event) → old events → new (events ++ read_event at buffer result ∷ [])) is step))

-- the read failed, and that was counted
pub was_unread : (at : Address) (fault : WireFault) (bytes : List ℕ) (result : Result (Option (ℕ × Address)) WireFault)
    (did noted : List Access → Type 0) (old new : List Event → Type 0) → result ≡ Err fault
    → ((events : List Event) → old events → new (events ++ read_event at bytes result ∷ []))
    → GoesOn (Writes (after_miss Unheard at)) did noted
    → GoesOn (IsReading at None bytes) (Trail did old) (Trail noted new)
was_unread at fault bytes result did noted old new is step notes =
    goes_on (λ (acts : List Act). acts ≡ called failed ∷ []) (Alone (Writes (after_miss Unheard at))) (IsReading at None bytes)
    (Trail did old) (Trail did new) (Trail noted new)
    (λ a b one two. inr (fails Unheard at a b one two))
    (calls (λ (acts : List Act). acts ≡ called failed ∷ []) did old new failed refl
    (subst (λ (result : Result (Option (ℕ × Address)) WireFault). (events : List Event) → old events → new (events ++ read_event at bytes result ∷ [])) is step))
    (alone (Writes (after_miss Unheard at)) did noted new notes)

-- ---- what comes of a step

module _ (Step : List Access → Type 0) (did done : List Access → Type 0) (went : List Event → Type 0) where
  -- it was noted, and then its datagrams went
  pub step_told : (change : Journal → Journal) (letters : List Letter) (noted : List Access → Type 0) (new : List Act → Type 0)
      → GoesOn Step did done → GoesOn (Writes change) done noted → GoesOn (AreTried letters) (Trail noted went) new
      → GoesOn (Then (Alone Step) (Then (Alone (Writes change)) (AreTried letters))) (Trail did went) new
  step_told change letters noted new step notes tried =
      goes_then (Alone Step) (Then (Alone (Writes change)) (AreTried letters)) (Trail did went) (Trail done went) new
      (alone Step did done went step)
      (goes_then (Alone (Writes change)) (AreTried letters) (Trail done went) (Trail noted went) new
      (alone (Writes change) done noted went notes) tried)

  -- there was none
  pub step_lacked : GoesOn Step did done → GoesOn (Then (Alone Step) (λ (acts : List Act). acts ≡ [])) (Trail did went) (Trail done went)
  step_lacked step = then_none (Alone Step) (Trail did went) (Trail done went) (alone Step did done went step)

-- a datagram came to an image, and what came of it was noted
pub takes_noted : (now : ℕ) (at from : Address) (what : Content) (s t : History) (it : Stepped) (old between new : List Access → Type 0)
    → GoesOn (HearsIf now at from what (Some it) s t) old between → GoesOn (Writes (after_packet from it)) between new
    → GoesOn (Takes now at from what s t) old new
takes_noted now at from what s t it old between new =
    goes_on (HearsIf now at from what (Some it) s t) (Writes (after_packet from it)) (Takes now at from what s t) old between new
    (λ a b one two. (Some it, (a, b, refl, one, two)))

-- something lacked
pub takes_lacked : (now : ℕ) (at from : Address) (what : Content) (s t : History) (old new : List Access → Type 0)
    → GoesOn (HearsIf now at from what None s t) old new → GoesOn (Takes now at from what s t) old new
takes_lacked now at from what s t old new =
    goes_on_as (HearsIf now at from what None s t) (Takes now at from what s t) old new
    (λ a one. (None, (a, [], sym (append-nil a), one, refl)))
