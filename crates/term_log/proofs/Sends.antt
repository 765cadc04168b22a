-- What a log stands for as its sender goes on.
use Rattle.std.proofs.Common.{◌≡◌, ℕ, ◌+◌, ◌-◌, ◌/◌, ◌%◌, ◌≤◌, true, false, List, [], ◌∷◌, ◌++◌, min, refl, sym, ap, subst, ◌∙◌, arith, append_assoc}
use Rattle.std.specs.Prelude.{nat_lt, nat_le, if◌then◌else◌}
use Rattle.term_log.specs.declared.ident.Ident.{Ident}
use Rattle.term_log.specs.declared.ident.LogKind.{LogKind}
use Rattle.term_log.specs.declared.ident.LogKind.TheVariants.{Ipc, Udp}
use Rattle.term_log.specs.declared.status.Status.{Status}
use Rattle.term_log.specs.Frames.{Frame, span, total}
use Rattle.term_log.specs.Kept.{IsStart, Kept}
use Rattle.term_log.specs.Log.{Log, IsSenderNear, low_of}
use Rattle.term_log.specs.Reading.{Given, all_given, spans, sent_size, of_term, within, GivesFrom}
use Rattle.term_log.specs.Sender.{Sending, status_of, after_status, after_setup, later_of}
use Rattle.term_log.specs.SenderSteps.{IsStartIn, ReadsFrom, frames_for, sent_to, heard, elicited, setup_cut, datagram_cut}
use Rattle.term_log.specs.Whole.{Whole, Stands, Carries, frames_behind}
use Rattle.term_log.proofs.Held.{total_both}
use Rattle.term_log.proofs.Nears.{near_held}
use Rattle.term_log.proofs.Standing.{start_from}

-- ---- where the sender stands

-- what is within a term of the tail is held
pub sender_held : (kind : LogKind) (k : Kept) (sender : ℕ) → IsSenderNear kind k.ident.start k.tail k.ident.term_length sender → kind ≡ Udp → low_of k ≤ sender
sender_held Ipc k sender near is = absurd cc
sender_held Udp k sender near is = near_held k.ident.start k.tail k.ident.term_length sender near

pub sender_starts : (l : Log) → IsStartIn l l.sender.position
sender_starts l =
    record { on = λ w s. subst (λ (x : Sending). IsStart w.ident.start w.frames x.position) (sym s.sender) s.sent }

-- ---- what it notes

-- it keeps something else, and stands where a frame begins
noted_stands : (l : Log) (w : Whole) (kept : Sending) → Stands l w → IsStart w.ident.start w.frames kept.position
    → Stands (record l { sender = kept }) (record w { sender = kept })
noted_stands l w kept s start =
    record {
      ident = s.ident;
      frames = s.frames;
      pairs = s.pairs;
      sender = refl;
      read = s.read;
      sent = start;
    }

-- what becomes of what the sender keeps becomes of that of the whole log, where the position stays
carries_noted : (old new : Log) (f : Ident → Sending → Sending) → new ≡ record old { sender = f old.kept.ident old.sender }
    → ((i : Ident) (s : Sending) → (f i s).position ≡ s.position) → Carries old new (λ w. record w { sender = f w.ident w.sender })
carries_noted old new f new_is stays =
    record {
      on = λ w s.
          let same : f old.kept.ident old.sender ≡ f w.ident w.sender = rw (s.ident, s.sender) refl in
          let is : new ≡ record old { sender = f w.ident w.sender } = new_is ∙ ap (λ (x : Sending). let l : Log = record old { sender = x } in l) same in
          let start : IsStart w.ident.start w.frames (f w.ident w.sender).position =
          subst (λ (p : ℕ). IsStart w.ident.start w.frames p) (sym (stays w.ident w.sender)) s.sent in
          subst (λ (l : Log). Stands l (record w { sender = f w.ident w.sender })) (sym is) (noted_stands old w (f w.ident w.sender) s start);
    }

pub sent_stands : (old new : Log) (position : ℕ) → new ≡ record old { sender = record old.sender { position = position } }
    → IsStartIn old position → Carries old new (sent_to position)
unfolding sent_to
sent_stands old new position new_is start =
    record {
      on = λ w s.
          let kept : Sending = record w.sender { position = position } in
          let is : new ≡ record old { sender = kept } =
          new_is ∙ ap (λ (x : Sending). let l : Log = record old { sender = record x { position = position } } in l) s.sender in
          subst (λ (l : Log). Stands l (record w { sender = kept })) (sym is) (noted_stands old w kept s (start.on w s));
    }

pub status_stands : (old new : Log) (answer : Status) (now position window : ℕ)
    → answer ≡ status_of old.sender position (min window (old.kept.ident.term_length / 2)) → new ≡ record old { sender = after_status answer now old.sender }
    → Carries old new (heard now position window)
unfolding heard
status_stands old new answer now position window answered new_is =
    carries_noted old new (λ i s. after_status (status_of s position (min window (i.term_length / 2))) now s)
    (new_is ∙ ap (λ (a : Status). let l : Log = record old { sender = after_status a now old.sender } in l) answered) (λ i s. refl)

pub elicit_stands : (old new : Log) → new ≡ record old { sender = record old.sender { elicited = true } } → Carries old new elicited
unfolding elicited
elicit_stands old new new_is = carries_noted old new (λ i s. record s { elicited = true }) new_is (λ i s. refl)

pub setup_stands : (old new : Log) (now : ℕ) → new ≡ record old { sender = after_setup now old.sender } → Carries old new (setup_cut now)
unfolding setup_cut
setup_stands old new now new_is = carries_noted old new (λ i s. after_setup now s) new_is (λ i s. refl)

pub datagram_stands : (old new : Log) (now : ℕ) → new ≡ record old { sender = record old.sender { datagram = later_of old.sender.datagram now } }
    → Carries old new (datagram_cut now)
unfolding datagram_cut
datagram_stands old new now new_is = carries_noted old new (λ i s. record s { datagram = later_of s.datagram now }) new_is (λ i s. refl)

-- ---- what is read for the next datagram

-- a list begins with another one
record Begins (front all : List Frame) : Type 0 where
  rest : List Frame
  is : all ≡ front ++ rest

begins_both : (front middle all : List Frame) → Begins front middle → Begins middle all → Begins front all
begins_both front middle all first second =
    record {
      rest = first.rest ++ second.rest;
      is = second.is ∙ ap (λ (fs : List Frame). fs ++ second.rest) first.is ∙ append_assoc front first.rest second.rest;
    }

begins_within : (budget : ℕ) (fs : List Frame) → Begins (within budget fs) fs
begins_within budget [] = record { rest = []; is = refl }
begins_within budget (f ∷ fs) =
    let others = begins_within (budget - sent_size f) fs in
    elim (nat_lt budget (sent_size f)) as (λ b. Begins (if b then [] else f ∷ within (budget - sent_size f) fs) (f ∷ fs)) [
      | true ↦ record { rest = f ∷ fs; is = refl }
      | false ↦ record { rest = others.rest; is = ap (λ (gs : List Frame). f ∷ gs) others.is }
    ]

begins_term : (term position : ℕ) (fs : List Frame) → Begins (of_term term position fs) fs
begins_term term position [] = record { rest = []; is = refl }
begins_term term position (f ∷ fs) =
    let others = begins_term term (position + span f) fs in
    elim (nat_le term (position % term + span f)) as (λ b. Begins (f ∷ (if b then [] else of_term term (position + span f) fs)) (f ∷ fs)) [
      | true ↦ record { rest = fs; is = refl }
      | false ↦ record { rest = others.rest; is = ap (λ (gs : List Frame). f ∷ gs) others.is }
    ]

begins_for : (w : Whole) (position budget : ℕ) → Begins (frames_for w position budget) (frames_behind position w.ident.start w.frames)
unfolding frames_for
begins_for w position budget =
    let behind : List Frame = frames_behind position w.ident.start w.frames in
    let here : List Frame = of_term w.ident.term_length position behind in
    begins_both (within budget here) here behind (begins_within budget here) (begins_term w.ident.term_length position behind)

spans_given : (i : Ident) (position : ℕ) (fs : List Frame) → spans (all_given i position fs) ≡ total fs
spans_given i position [] = refl
spans_given i position (f ∷ fs) = omega (arith, spans_given i (position + span f) fs)

pub reads_whole : (l : Log) (position budget : ℕ) (left : List Given) → GivesFrom l.kept position budget left → ReadsFrom l position budget left
unfolding frames_for
reads_whole l position budget left gives =
    record {
      on = λ w s start.
          let from = start_from l w position s start in
          let fs : List Frame = frames_for w position budget in
          let is : left ≡ all_given w.ident position fs =
          gives.on from.before from.after from.stands from.kept_place
          ∙ ap (λ (i : Ident). all_given i position (within budget (of_term i.term_length position from.after))) s.ident
          ∙ ap (λ (gs : List Frame). all_given w.ident position (within budget (of_term w.ident.term_length position gs))) (sym from.behind) in
          (is, ap spans is ∙ spans_given w.ident position fs);
    }

-- behind what is read a frame begins, or nothing is
pub reads_to : (l : Log) (position budget : ℕ) (left : List Given) → GivesFrom l.kept position budget left → IsStartIn l position
    → IsStartIn l (position + spans left)
reads_to l position budget left gives starts =
    record {
      on = λ w s.
          let start = starts.on w s in
          let from = start_from l w position s start in
          let fs : List Frame = frames_for w position budget in
          let read = ((reads_whole l position budget left gives).on w s start).1 in
          let front = begins_for w position budget in
          let place = from.place in
          record {
            before = from.before ++ fs;
            after = front.rest;
            is = from.whole ∙ ap (λ (gs : List Frame). from.before ++ gs) (sym from.behind ∙ front.is) ∙ sym (append_assoc from.before fs front.rest);
            place = omega (arith, place, read, total_both from.before fs);
          };
    }
