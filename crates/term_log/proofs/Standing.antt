-- Which logs stand for which whole logs.
use Rattle.std.proofs.Common.{◌≡◌, ℕ, ◌+◌, ◌/◌, true, false, cond, List, [], ◌∷◌, ◌++◌, Option, Some, None, map, refl, sym, ap, ap₂, ◌∙◌, subst, arith, append_assoc}
use Rattle.std.specs.Prelude.{Result, Ok, Err, IfOk, OnOk, nat_le, IfSome}
use Rattle.std.proofs.lemmas.Bool.Decides.{nat_tests}
use Rattle.term_log.specs.declared.ident.Ident.{Ident}
use Rattle.term_log.specs.declared.offer.Offer.{Offer}
use Rattle.log_pairs.specs.Pairs.{position_of, moved_one, rejoined_pairs}
use Rattle.log_pairs.specs.Polling.{Fetched, Polled, behind, passed, fragments_of}
use Rattle.log_pairs.specs.declared.pair.Pair.{Pair}
use Rattle.log_pairs.proofs.Pairing.{at_found, at_map, at_rejoined, at_weaker}
use Rattle.term_log.specs.Frames.{Frame, span, total, IsRun}
use Rattle.term_log.specs.Kept.{IsStart, Kept, StandsFor, after_frames}
use Rattle.term_log.specs.Log.{Log, limit_among, limit_of, connected_of, answer_of, offer_of, appended, appended_at}
use Rattle.term_log.specs.Polling.{polled_run, GivesFragments, PassesTo}
use Rattle.term_log.specs.Sender.{Sending, sending}
use Rattle.term_log.specs.Whole.{Whole, tail_of, limit_at, is_connected, fresh, answer_to, offered, rejoined, rejoined_kept, frames_behind, Poll, passes, polled_from, polled, AreStarts, Stands, Carries, Offers, Fetches}
use Rattle.term_log.proofs.Appending.{ident_after}
use Rattle.term_log.proofs.Held.{run_front, total_both}
use Rattle.term_log.proofs.Polls.{behind_taken, taken}
use Rattle.term_log.proofs.Starts.{end_start, start_more}
use Rattle.term_log.proofs.Terms.{some_span}

-- ---- where frames begin

pub starts_more : (position : ℕ) (fs gs : List Frame) (pairs : List Pair) → AreStarts position fs pairs → AreStarts position (fs ++ gs) pairs
starts_more position fs gs pairs starts =
    at_weaker (IsStart position fs) (IsStart position (fs ++ gs)) (λ q start. start_more position q fs gs start) pairs starts

-- the frames that do not begin before a frame's start are those behind it
behind_start : (i : Ident) (position at : ℕ) (before after : List Frame) → IsRun i position before → at ≡ position + total before
    → frames_behind at position (before ++ after) ≡ after
behind_start i position at [] [] run is = refl
behind_start i position at [] (f ∷ fs) run is =
    let here : nat_le at position ≡ true = grind (arith, nat_tests, is) in
    ap (λ b. cond b (f ∷ fs) (frames_behind at (position + span f) fs)) here
behind_start i position at (f ∷ fs) after run is =
    let some = some_span i position f run.0 in
    let ahead : nat_le at position ≡ false = grind (arith, nat_tests, is, some) in
    ap (λ b. cond b (f ∷ (fs ++ after)) (frames_behind at (position + span f) (fs ++ after))) ahead
    ∙ behind_start i (position + span f) at fs after run.1 (omega (arith, is))

-- ---- what is one and the same

pub tail_stands : (l : Log) (w : Whole) → Stands l w → l.kept.tail ≡ tail_of w
tail_stands l w s =
    let tail = s.frames.tail in
    tail ∙ ap (λ (i : Ident). i.start + total w.frames) s.ident

pub limit_stands : (l : Log) (w : Whole) → Stands l w → limit_of l ≡ limit_at w
unfolding limit_of
limit_stands l w s =
    ap (λ (i : Ident). limit_among i.kind l.kept.tail (i.term_length / 2) l.sender.position l.pairs) s.ident
    ∙ ap (λ (t : ℕ). limit_among w.ident.kind t (w.ident.term_length / 2) l.sender.position l.pairs) (tail_stands l w s)
    ∙ ap₂ (λ (x : Sending) (pairs : List Pair). limit_among w.ident.kind (tail_of w) (w.ident.term_length / 2) x.position pairs) s.sender s.pairs

pub connected_stands : (l : Log) (w : Whole) (now timeout : ℕ) → Stands l w → connected_of l now timeout ≡ is_connected w now timeout
unfolding connected_of
connected_stands l w now timeout s = rw (s.ident, s.pairs, s.sender) refl

-- ---- what calls do

pub fresh_stands : (l : Log) (i : Ident) → l.kept.ident ≡ i → StandsFor l.kept [] → l.pairs ≡ [] → l.sender ≡ sending i.start → Stands l (fresh i)
fresh_stands l i ident frames pairs sender =
    record {
      ident = ident;
      frames = frames;
      pairs = pairs;
      sender = sender;
      read = tt;
      sent = record { before = []; after = []; is = refl; place = omega arith };
    }

pub offer_stands : (old new : Log) (message : List ℕ) (answer : Offer) → answer ≡ offer_of old message
    → new ≡ record old { kept = after_frames old.kept (appended answer old.kept message) }
    → ((frames : List Frame) → StandsFor old.kept frames → StandsFor new.kept (frames ++ appended answer old.kept message))
    → Offers old new message answer
unfolding offered
offer_stands old new message answer answer_is new_is stands =
    record {
      on = λ w s.
          let tail = tail_stands old w s in
          let same : answer ≡ answer_to w message =
          answer_is
          ∙ ap (λ (i : Ident). answer_of i old.kept.tail (limit_of old) message) s.ident
          ∙ ap₂ (λ (t n : ℕ). answer_of w.ident t n message) tail (limit_stands old w s) in
          let more : List Frame = appended_at (answer_to w message) w.ident (tail_of w) message in
          let more_is : appended answer old.kept message ≡ more =
          ap (λ (o : Offer). appended_at o old.kept.ident old.kept.tail message) same
          ∙ ap₂ (λ (i : Ident) (t : ℕ). appended_at (answer_to w message) i t message) s.ident tail in (
            same,
            record {
              ident = ap (λ (l : Log). l.kept.ident) new_is ∙ ident_after old.kept (appended answer old.kept message) ∙ s.ident;
              frames = subst (λ (fs : List Frame). StandsFor new.kept (w.frames ++ fs)) more_is (stands w.frames s.frames);
              pairs = ap (λ (l : Log). l.pairs) new_is ∙ s.pairs;
              sender = ap (λ (l : Log). l.sender) new_is ∙ s.sender;
              read = starts_more w.ident.start w.frames more w.pairs s.read;
              sent = start_more w.ident.start w.sender.position w.frames more s.sent;
            },
          );
    }

pub rejoin_stands : (l : Log) (subscriptions : List ℕ) → Carries l (rejoined_kept subscriptions l) (rejoined subscriptions)
unfolding rejoined rejoined_kept
rejoin_stands l subscriptions =
    record {
      on = λ w s.
          record {
            ident = s.ident;
            frames = s.frames;
            pairs = ap₂ (λ (t : ℕ) (pairs : List Pair). rejoined_pairs t pairs subscriptions) (tail_stands l w s) s.pairs;
            sender = s.sender;
            read = at_rejoined (IsStart w.ident.start w.frames) (tail_of w) w.pairs subscriptions s.read (end_start w.ident.start w.frames);
            sent = s.sent;
          };
    }

-- ---- polls

-- where a whole log is read
pub record From (l : Log) (w : Whole) (at : ℕ) : Type 0 where
  pub before : List Frame
  pub after : List Frame
  pub whole : w.frames ≡ before ++ after
  pub stands : StandsFor l.kept (before ++ after)
  pub place : at ≡ w.ident.start + total before
  pub kept_place : at ≡ l.kept.ident.start + total before
  pub behind : frames_behind at w.ident.start w.frames ≡ after

pub start_from : (l : Log) (w : Whole) (at : ℕ) → Stands l w → IsStart w.ident.start w.frames at → From l w at
start_from l w at s start =
    let stands = subst (λ (fs : List Frame). StandsFor l.kept fs) start.is s.frames in
    let begin : l.kept.ident.start ≡ w.ident.start = ap (λ (i : Ident). i.start) s.ident in
    let place = start.place in
    let kept_place : at ≡ l.kept.ident.start + total start.before = omega arith in
    let run = run_front l.kept.ident l.kept.ident.start start.before start.after stands.sound in
    record {
      before = start.before;
      after = start.after;
      whole = start.is;
      stands = stands;
      place = place;
      kept_place = kept_place;
      behind = ap₂ (λ (p : ℕ) (fs : List Frame). frames_behind at p fs) (sym begin) start.is
          ∙ behind_start l.kept.ident l.kept.ident.start at start.before start.after run kept_place;
    }

pub reads_from : (l : Log) (w : Whole) (subscription at : ℕ) → Stands l w → position_of l.pairs subscription ≡ Some at → From l w at
reads_from l w subscription at s is =
    let here : position_of w.pairs subscription ≡ Some at = ap (λ (pairs : List Pair). position_of pairs subscription) (sym s.pairs) ∙ is in
    start_from l w at s
    (subst (λ (o : Option ℕ). IfSome o (IsStart w.ident.start w.frames)) here (at_found (IsStart w.ident.start w.frames) subscription w.pairs s.read))

pub polled_is : (w : Whole) (l : Log) (subscription limit : ℕ) (o : Option ℕ) → Stands l w → position_of l.pairs subscription ≡ o
    → polled w subscription limit ≡ polled_from w subscription limit o
unfolding polled
polled_is w l subscription limit o s is =
    ap (polled_from w subscription limit) (ap (λ (pairs : List Pair). position_of pairs subscription) (sym s.pairs) ∙ is)

pub fetches : (l : Log) (subscription limit at : ℕ) (left : List Fetched) → position_of l.pairs subscription ≡ Some at
    → GivesFragments l.kept at limit left → Fetches l subscription limit left
fetches l subscription limit at left is gives =
    record {
      on = λ w s.
          let from = reads_from l w subscription at s is in
          gives.on from.before from.after from.stands from.kept_place
          ∙ ap (λ (fs : List Frame). fragments_of (passed limit (polled_run at fs))) (sym from.behind)
          ∙ sym (ap (λ (p : Poll). p.fragments) (polled_is w l subscription limit (Some at) s is));
    }

-- without a pair there is nothing to give
pub fetches_nothing : (l : Log) (subscription limit : ℕ) → position_of l.pairs subscription ≡ None → Fetches l subscription limit []
fetches_nothing l subscription limit is =
    record { on = λ w s. sym (ap (λ (p : Poll). p.fragments) (polled_is w l subscription limit None s is)) }

pub fetches_new : {E : Type 0} (l : Log) (subscription limit : ℕ) (r : Result (List Fetched) E) → position_of l.pairs subscription ≡ None
    → IfOk r (λ copies. copies ≡ []) → IfOk r (Fetches l subscription limit)
fetches_new l subscription limit (Ok copies) is new = subst (Fetches l subscription limit) (sym new) (fetches_nothing l subscription limit is)
fetches_new l subscription limit (Err fault) is new = tt

pub poll_stands : (l new : Log) (subscription limit at end : ℕ) → position_of l.pairs subscription ≡ Some at → PassesTo l.kept at limit end
    → new ≡ record l { pairs = map (moved_one subscription end) l.pairs } → Carries l new (λ w. (polled w subscription limit).after)
poll_stands l new subscription limit at end is to new_is =
    record {
      on = λ w s.
          let from = reads_from l w subscription at s is in
          let later : List Frame = frames_behind at w.ident.start w.frames in
          let t = taken at limit later in
          let fs : List Polled = passed limit (polled_run at later) in
          let end_is : end ≡ behind at fs =
          to.on from.before from.after from.stands from.kept_place ∙ ap (λ (gs : List Frame). behind at (passed limit (polled_run at gs))) (sym from.behind) in
          let split : w.frames ≡ (from.before ++ t.front) ++ t.rest =
          from.whole ∙ ap (λ (gs : List Frame). from.before ++ gs) (sym from.behind ∙ t.is) ∙ sym (append_assoc from.before t.front t.rest) in
          let start : IsStart w.ident.start w.frames (behind at fs) = record {
            before = from.before ++ t.front;
            after = t.rest;
            is = split;
            place = omega (arith, from.place, behind_taken at limit later t, total_both from.before t.front);
          } in
          let after : Stands new (passes w subscription at fs).after = record {
            ident = ap (λ (x : Log). x.kept.ident) new_is ∙ s.ident;
            frames = subst (λ (k : Kept). StandsFor k w.frames) (sym (ap (λ (x : Log). x.kept) new_is)) s.frames;
            pairs = ap (λ (x : Log). x.pairs) new_is ∙ ap₂ (λ (e : ℕ) (pairs : List Pair). map (moved_one subscription e) pairs) end_is s.pairs;
            sender = ap (λ (x : Log). x.sender) new_is ∙ s.sender;
            read = at_map (IsStart w.ident.start w.frames) subscription (behind at fs) w.pairs s.read start;
            sent = s.sent;
          } in
          subst (λ (p : Poll). Stands new p.after) (sym (polled_is w l subscription limit (Some at) s is)) after;
    }

pub poll_none_stands : (l : Log) (subscription limit : ℕ) → position_of l.pairs subscription ≡ None → Carries l l (λ w. (polled w subscription limit).after)
poll_none_stands l subscription limit is =
    record { on = λ w s. subst (λ (p : Poll). Stands l p.after) (sym (polled_is w l subscription limit None s is)) s }

pub poll_new_stands : {A E : Type 0} (l : Log) (subscription limit : ℕ) (r : Result A E) → position_of l.pairs subscription ≡ None
    → OnOk r (Carries l l (λ w. (polled w subscription limit).after))
poll_new_stands l subscription limit (Ok copies) is = poll_none_stands l subscription limit is
poll_new_stands l subscription limit (Err fault) is = tt
