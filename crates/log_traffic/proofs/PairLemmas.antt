-- A log of either kind that one subscription more reads, or one less; and how many messages it took.
use Rattle.std.proofs.Common.{◌≡◌, ℕ, List, [], ◌∷◌, ◌++◌, filter, refl, ap, ap₂}
use Rattle.image_log.specs.Rebuilt.{Rebuilt, joined as image_joined, left as image_left, settled}
use Rattle.log_pairs.proofs.Pairing.{at_filter, at_push}
use Rattle.log_pairs.specs.Pairs.{is_other}
use Rattle.log_pairs.specs.declared.pair.Pair.{Pair}
use Rattle.log_traffic.specs.declared.any_log.AnyLog.{AnyLog}
use Rattle.log_traffic.specs.declared.any_log.AnyLog.TheVariants.{Term, Image}
use Rattle.log_traffic.specs.Held.{Lies, joined_held, left_held, messages_held, rejoined_held}
use Rattle.log_traffic.specs.Whole.{AnyWhole, whole, rebuilt, Carries, Counts, StandsFor, joined, left, messages_in, rejoined}
use Rattle.log_traffic.proofs.AnyLemmas.{rejoined_stands}
use Rattle.term_log.proofs.Standing.{tail_stands}
use Rattle.term_log.proofs.Starts.{end_start}
use Rattle.term_log.specs.Kept.{IsStart}
use Rattle.term_log.specs.Whole.{tail_of}

joined_at : (subscription : ℕ) (log : AnyLog) (w : AnyWhole) → StandsFor log w → StandsFor (joined_held subscription log) (joined subscription w)
joined_at subscription (Term log) (whole w) stands = record {
  ident = stands.ident;
  frames = stands.frames;
  pairs = ap₂ (λ (t : ℕ) (pairs : List Pair). pairs ++ record { subscription = subscription; position = t } ∷ []) (tail_stands log w stands) stands.pairs;
  sender = stands.sender;
  read = at_push (IsStart w.ident.start w.frames) w.pairs (record { subscription = subscription; position = tail_of w }) stands.read (end_start w.ident.start w.frames);
  sent = stands.sent;
}
joined_at subscription (Term log) (rebuilt r) stands = absurd stands
joined_at subscription (Image log) (whole w) stands = absurd stands
joined_at subscription (Image log) (rebuilt r) stands = ap (λ (r : Rebuilt). settled (image_joined r subscription)) stands

left_at : (subscription : ℕ) (log : AnyLog) (w : AnyWhole) → StandsFor log w → StandsFor (left_held subscription log) (left subscription w)
left_at subscription (Term log) (whole w) stands = record {
  ident = stands.ident;
  frames = stands.frames;
  pairs = ap (λ (pairs : List Pair). filter (is_other subscription) pairs) stands.pairs;
  sender = stands.sender;
  read = at_filter (IsStart w.ident.start w.frames) subscription w.pairs stands.read;
  sent = stands.sent;
}
left_at subscription (Term log) (rebuilt r) stands = absurd stands
left_at subscription (Image log) (whole w) stands = absurd stands
left_at subscription (Image log) (rebuilt r) stands = ap (λ (r : Rebuilt). settled (image_left r subscription)) stands

messages_at : (log : AnyLog) (w : AnyWhole) → StandsFor log w → messages_held log ≡ messages_in w
messages_at (Term log) (whole w) stands = stands.frames.messages
messages_at (Term log) (rebuilt r) stands = absurd stands
messages_at (Image log) (whole w) stands = absurd stands
messages_at (Image log) (rebuilt r) stands = refl

-- whatever whole log stands behind it
pub joined_carries : (subscription : ℕ) (log : AnyLog) → Carries log (joined_held subscription log) (joined subscription)
joined_carries subscription log = record { on = joined_at subscription log }

pub left_carries : (subscription : ℕ) (log : AnyLog) → Carries log (left_held subscription log) (left subscription)
left_carries subscription log = record { on = left_at subscription log }

pub rejoined_carries : (subscriptions : List ℕ) (log : AnyLog) → Carries log (rejoined_held subscriptions log) (rejoined subscriptions)
rejoined_carries subscriptions log = record { on = rejoined_stands subscriptions log }

pub messages_count : (log : AnyLog) → Counts log (messages_held log)
messages_count log = record { on = messages_at log }

-- it lies where it lay
pub joined_lies : (subscription : ℕ) (log : AnyLog) → Lies log (joined_held subscription log)
unfolding settled
joined_lies subscription (Term log) = record { place_is = refl; made_is = refl }
joined_lies subscription (Image log) = record { place_is = refl; made_is = refl }

pub left_lies : (subscription : ℕ) (log : AnyLog) → Lies log (left_held subscription log)
unfolding settled
left_lies subscription (Term log) = record { place_is = refl; made_is = refl }
left_lies subscription (Image log) = record { place_is = refl; made_is = refl }
