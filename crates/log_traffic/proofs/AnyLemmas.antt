-- Logs of either kind: what calls leave as it was, and what stands for what.
use Rattle.std.proofs.Common.{◌≡◌, ℕ, ◌==◌, ◌||◌, Bool, true, false, cond, List, [], ◌∷◌, Option, Some, None, option_map, map, find, refl, sym, ap, ap₂, ◌∙◌, subst}
use Rattle.std.specs.List.{list_any}
use Rattle.frame_codec.specs.declared.header.TermPlace.{TermPlace}
use Rattle.frame_codec.specs.Frame.{Sent}
use Rattle.image_log.specs.declared.ident.Ident.{Ident as ImageIdent}
use Rattle.image_log.specs.Log.{Log as ImageLog}
use Rattle.image_log.specs.Polling.{polled, polled_from}
use Rattle.image_log.specs.Rebuilt.{Rebuilt, contiguous_of, is_silent, settled, rejoined as image_rejoined}
use Rattle.log_pairs.specs.Pairs.{moved_one, position_of}
use Rattle.log_pairs.specs.declared.pair.Pair.{Pair}
use Rattle.log_traffic.specs.declared.any_log.AnyLog.{AnyLog}
use Rattle.log_traffic.specs.declared.any_log.AnyLog.TheVariants.{Term, Image}
use Rattle.log_traffic.specs.Held.{Lies, for_publication, for_stream, Place, is_silent_held, made_held, pairs_held, place_held, position_held, reach_held, rejoined_held, terms_of}
use Rattle.log_traffic.specs.Whole.{AnyWhole, whole, rebuilt, StandsFor, is_silent_in, made_for, pairs_in, polled as any_polled, position_in, reach_of, readers_in, rejoined}
use Rattle.log_traffic.specs.Receiving.{after_beat, after_data, after_frame, after_frames}
use Rattle.log_traffic.specs.Receiver.{Receiving, after_status, log_after}
use Rattle.log_traffic.proofs.ReceivingLemmas.{ident_stays}
use Rattle.term_log.specs.Whole.{Whole, polled as term_polled, polled_from as term_polled_from, rejoined as term_rejoined, rejoined_kept}
use Rattle.term_log.proofs.Standing.{rejoin_stands, tail_stands}

-- ---- a poll leaves the stream

from_ident : (r : Rebuilt) (subscription limit : ℕ) (o : Option ℕ) → (polled_from r subscription limit o).after.ident ≡ r.ident
unfolding settled
from_ident r subscription limit None = refl
from_ident r subscription limit (Some at) = refl

pub polled_ident : (r : Rebuilt) (subscription limit : ℕ) → (polled r subscription limit).after.ident ≡ r.ident
unfolding polled
polled_ident r subscription limit = from_ident r subscription limit (position_of r.pairs subscription)

-- ---- datagrams leave the stream

frames_ident : (r : Rebuilt) (frames : List Sent) → (after_frames r frames).ident ≡ r.ident
frames_ident r [] = refl
frames_ident r (frame ∷ later) = frames_ident (after_frame r frame) later ∙ ident_stays r frame

pub data_ident : (r : Rebuilt) (now : ℕ) (frames : List Sent) → (after_data r now frames).ident ≡ r.ident
unfolding after_data
data_ident r now frames = frames_ident r frames

pub beat_ident : (r : Rebuilt) (now : ℕ) (place : TermPlace) → (after_beat r now place).ident ≡ r.ident
unfolding after_beat
beat_ident r now place = refl

status_ident : (b : Bool) (r s : Rebuilt) → s.ident ≡ r.ident → (cond b s r).ident ≡ r.ident
status_ident true r s same = same
status_ident false r s same = refl

pub report_ident : (receiver : Receiving) (r : Rebuilt) (now : ℕ) → (log_after receiver r now).ident ≡ r.ident
unfolding after_status
report_ident receiver r now = status_ident _ r _ refl

-- ---- a log whose stream is left lies where it lay

pub image_lies : (old new : ImageLog) (r : Rebuilt) → new ≡ record old { rebuilt = r } → r.ident ≡ old.rebuilt.ident → Lies (Image old) (Image new)
image_lies old new r is same = record {
  place_is = ap (λ (l : ImageLog). place_held (Image l)) is
      ∙ ap (λ (i : ImageIdent). let p : Place = record { home = old.held.home; place = old.held.place; term_length = i.term_length } in p) same;
  made_is = ap (λ (l : ImageLog). made_held (Image l)) is ∙ ap for_stream same;
}

-- ---- what a log says that stands for a whole one

pub made_stands : (log : AnyLog) (w : AnyWhole) → StandsFor log w → made_held log ≡ made_for w
made_stands (Term log) (whole w) stands = ap for_publication stands.ident
made_stands (Term log) (rebuilt r) stands = absurd stands
made_stands (Image log) (whole w) stands = absurd stands
made_stands (Image log) (rebuilt r) stands = ap (λ (r : Rebuilt). for_stream r.ident) stands

pub reach_stands : (log : AnyLog) (w : AnyWhole) → StandsFor log w → reach_held log ≡ reach_of w
reach_stands (Term log) (whole w) stands = tail_stands log w stands
reach_stands (Term log) (rebuilt r) stands = absurd stands
reach_stands (Image log) (whole w) stands = absurd stands
reach_stands (Image log) (rebuilt r) stands = ap contiguous_of stands

pub silent_stands : (log : AnyLog) (w : AnyWhole) (now limit : ℕ) → StandsFor log w
    → is_silent_held log now limit ≡ is_silent_in w now limit
silent_stands (Term log) (whole w) now limit stands = refl
silent_stands (Term log) (rebuilt r) now limit stands = absurd stands
silent_stands (Image log) (whole w) now limit stands = absurd stands
silent_stands (Image log) (rebuilt r) now limit stands = ap (λ (r : Rebuilt). is_silent r now limit) stands

pub pairs_stand : (log : AnyLog) (w : AnyWhole) → StandsFor log w → pairs_held log ≡ pairs_in w
pairs_stand (Term log) (whole w) stands = stands.pairs
pairs_stand (Term log) (rebuilt r) stands = absurd stands
pairs_stand (Image log) (whole w) stands = absurd stands
pairs_stand (Image log) (rebuilt r) stands = ap (λ (r : Rebuilt). r.pairs) stands

pub position_stands : (log : AnyLog) (w : AnyWhole) (subscription : ℕ) → StandsFor log w → position_held log subscription ≡ position_in w subscription
position_stands log w subscription stands = ap (λ (pairs : List Pair). position_of pairs subscription) (pairs_stand log w stands)

pub rejoined_stands : (subscriptions : List ℕ) (log : AnyLog) (w : AnyWhole) → StandsFor log w
    → StandsFor (rejoined_held subscriptions log) (rejoined subscriptions w)
rejoined_stands subscriptions (Term log) (whole w) stands = (rejoin_stands log subscriptions).on w stands
rejoined_stands subscriptions (Term log) (rebuilt r) stands = absurd stands
rejoined_stands subscriptions (Image log) (whole w) stands = absurd stands
rejoined_stands subscriptions (Image log) (rebuilt r) stands = ap (λ (r : Rebuilt). settled (image_rejoined r subscriptions)) stands

pub made_terms : (log : AnyLog) (w : AnyWhole) → StandsFor log w → terms_of (made_held log) ≡ terms_of (made_for w)
made_terms log w stands = ap terms_of (made_stands log w stands)

-- ---- who reads, after a poll and where others read

same_number : (b : Bool) (position : ℕ) (pair : Pair) → (cond b (record pair { position = position }) pair).subscription ≡ pair.subscription
same_number true position pair = refl
same_number false position pair = refl

same_numbers : (subscription position : ℕ) (pairs : List Pair)
    → map (λ (pair : Pair). pair.subscription) (map (moved_one subscription position) pairs) ≡ map (λ (pair : Pair). pair.subscription) pairs
same_numbers subscription position [] = refl
same_numbers subscription position (pair ∷ pairs) =
    ap₂ (λ (n : ℕ) (ns : List ℕ). n ∷ ns) (same_number (pair.subscription == subscription) position pair) (same_numbers subscription position pairs)

their_numbers : (f : ℕ → Pair) → ((n : ℕ) → (f n).subscription ≡ n) → (ns : List ℕ) → map (λ (pair : Pair). pair.subscription) (map f ns) ≡ ns
their_numbers f same [] = refl
their_numbers f same (n ∷ ns) = ap₂ (λ (n : ℕ) (ns : List ℕ). n ∷ ns) (same n) (their_numbers f same ns)

term_from : (w : Whole) (subscription limit : ℕ) (o : Option ℕ)
    → readers_in (whole (term_polled_from w subscription limit o).after) ≡ readers_in (whole w)
term_from w subscription limit None = refl
term_from w subscription limit (Some at) = same_numbers subscription _ w.pairs

image_from : (r : Rebuilt) (subscription limit : ℕ) (o : Option ℕ)
    → readers_in (rebuilt (polled_from r subscription limit o).after) ≡ readers_in (rebuilt r)
unfolding settled
image_from r subscription limit None = refl
image_from r subscription limit (Some at) = same_numbers subscription _ r.pairs

-- a poll leaves who reads
pub polled_readers : (w : AnyWhole) (subscription limit : ℕ) → readers_in (any_polled w subscription limit).after ≡ readers_in w
unfolding polled term_polled
polled_readers (whole w) subscription limit = term_from w subscription limit (position_of w.pairs subscription)
polled_readers (rebuilt r) subscription limit = image_from r subscription limit (position_of r.pairs subscription)

term_made : (w : Whole) (subscription limit : ℕ) (o : Option ℕ) → (term_polled_from w subscription limit o).after.ident ≡ w.ident
term_made w subscription limit None = refl
term_made w subscription limit (Some at) = refl

-- and what the log is made for
pub polled_made : (w : AnyWhole) (subscription limit : ℕ) → made_for (any_polled w subscription limit).after ≡ made_for w
unfolding term_polled
polled_made (whole w) subscription limit = ap for_publication (term_made w subscription limit (position_of w.pairs subscription))
polled_made (rebuilt r) subscription limit = ap for_stream (polled_ident r subscription limit)

-- exactly those read that are to read
pub rejoined_readers : (subscriptions : List ℕ) (w : AnyWhole) → readers_in (rejoined subscriptions w) ≡ subscriptions
unfolding term_rejoined settled
rejoined_readers subscriptions (whole w) = their_numbers _ (λ n. refl) subscriptions
rejoined_readers subscriptions (rebuilt r) = their_numbers _ (λ n. refl) subscriptions

pub rejoined_made : (subscriptions : List ℕ) (w : AnyWhole) → made_for (rejoined subscriptions w) ≡ made_for w
unfolding term_rejoined settled
rejoined_made subscriptions (whole w) = refl
rejoined_made subscriptions (rebuilt r) = refl

-- ---- what is held, where others read

pub rejoined_lies : (subscriptions : List ℕ) (log : AnyLog) → Lies log (rejoined_held subscriptions log)
unfolding rejoined_kept settled
rejoined_lies subscriptions (Term log) = record { place_is = refl; made_is = refl }
rejoined_lies subscriptions (Image log) = record { place_is = refl; made_is = refl }

-- ---- a reader has a position

has_place : (b : Bool) (first : Pair) (found : Option Pair) (other : Bool) → (b || other) ≡ true
    → (other ≡ true → (at : ℕ) × (option_map (λ (pair : Pair). pair.position) found ≡ Some at))
    → (at : ℕ) × (option_map (λ (pair : Pair). pair.position) (cond b (Some first) found) ≡ Some at)
has_place true first found other has rest = (first.position, refl)
has_place false first found other has rest = rest has

found_place : (n : ℕ) (pairs : List Pair) → list_any (λ m. m == n) (map (λ (pair : Pair). pair.subscription) pairs) ≡ true
    → (at : ℕ) × (position_of pairs n ≡ Some at)
found_place n [] has = absurd (cc)
found_place n (pair ∷ pairs) has =
    has_place (pair.subscription == n) pair (find (λ pair. pair.subscription == n) pairs)
    (list_any (λ m. m == n) (map (λ (pair : Pair). pair.subscription) pairs)) has (found_place n pairs)

pub reader_stands : (w : AnyWhole) (subscription : ℕ) → list_any (λ n. n == subscription) (readers_in w) ≡ true
    → (at : ℕ) × (position_in w subscription ≡ Some at)
reader_stands w subscription has = found_place subscription (pairs_in w) has

-- ---- the reader that was moved stands there

moved_pair : (to at : ℕ) (b : Bool) (pair : Pair) (found after : Option Pair)
    → (option_map (λ (pair : Pair). pair.position) found ≡ Some at → option_map (λ (pair : Pair). pair.position) after ≡ Some to)
    → option_map (λ (pair : Pair). pair.position) (cond b (Some pair) found) ≡ Some at
    → option_map (λ (pair : Pair). pair.position) (cond b (Some (cond b (record pair { position = to }) pair)) after) ≡ Some to
moved_pair to at true pair found after rest is = refl
moved_pair to at false pair found after rest is = rest is

pub moved_there : (subscription to at : ℕ) (pairs : List Pair) → position_of pairs subscription ≡ Some at
    → position_of (map (moved_one subscription to) pairs) subscription ≡ Some to
moved_there subscription to at [] is = absurd (cc is)
moved_there subscription to at (pair ∷ pairs) is =
    let later : Option Pair = find (λ pair. pair.subscription == subscription) (map (moved_one subscription to) pairs) in
    subst (λ (n : ℕ). option_map (λ (pair : Pair). pair.position) (cond (n == subscription) (Some (moved_one subscription to pair)) later) ≡ Some to)
    (sym (same_number (pair.subscription == subscription) to pair))
    (moved_pair to at (pair.subscription == subscription) pair (find (λ pair. pair.subscription == subscription) pairs) later
    (moved_there subscription to at pairs) is)
