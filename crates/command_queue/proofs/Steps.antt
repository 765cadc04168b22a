-- What a step tells, once a pass has heard what is known.
use Rattle.std.proofs.Common.{◌≡◌, ◌++◌, ℕ, List, [], length, ap, ◌∙◌, subst}
use Rattle.std.proofs.lemmas.List.{nil_from_length}
use Rattle.atomic_table.specs.Seated.{TableId}
use Rattle.command_queue.specs.Facts.{Begins, Fits, AreTaken, AreSent, joined}
use Rattle.command_queue.specs.Letters.{of}
use Rattle.command_queue.specs.Sent.{Sent}
use Rattle.command_queue.specs.Taken.{Taken, takes}
use Rattle.command_queue.specs.Views.{hearing, knowing, with_taken}
use Rattle.command_queue.specs.declared.known.Facts.{Facts}
use Rattle.command_queue.specs.declared.letter.Letter.{Letter}
use Rattle.command_queue.specs.declared.letter.SentBy.{SentBy}
use Rattle.command_queue.specs.declared.rule.View.{View}
use Rattle.command_queue.proofs.Lists.{all_left}

module _ {E : Type 0} where
  -- what fits all that is known fits each part of it
  fits_part : (gone letters : List (Letter E)) (mine its : Facts E) → Fits gone letters (joined mine its) → Fits gone letters its
  fits_part gone letters mine its fits = record {
    at_least = all_left (λ (by : SentBy E). Begins by.sent (of by.number (gone ++ letters))) its.at_least mine.at_least fits.at_least;
    in_all = all_left (λ (by : SentBy E). of by.number (gone ++ letters) ≡ by.sent) its.in_all mine.in_all fits.in_all;
    taken = all_left (λ (part : List (Letter E)). Begins part gone) its.taken mine.taken fits.taken;
  }

  -- a pass that has heard a copy of what is known
  fits_told : (gone letters : List (Letter E)) (v u known after : View E) → after ≡ hearing v u → u ≡ knowing known.facts
      → Fits gone letters after.facts → Fits gone letters known.facts
  fits_told gone letters v u known after is copy fits =
      fits_part gone letters v.facts known.facts
      (subst (λ (y : View E). Fits gone letters (joined v.facts y.facts)) copy
      (subst (λ (y : View E). Fits gone letters y.facts) is fits))

  pub full_told : (v u known after : View E) (number : ℕ) (queue : TableId) (sender : Sent E) (letters : List (Letter E))
      → after ≡ hearing v u → u ≡ knowing known.facts → v.number ≡ number
      → record { queue = queue; total = v.total; number = number; sent = v.sent } ≡ sender
      → AreSent after.total after.number after.sent after.facts letters → AreSent sender.total sender.number sender.sent known.facts letters
  full_told v u known after number queue sender letters is copy own was full =
      let so : AreSent v.total v.number v.sent (joined v.facts u.facts) letters = subst (λ (y : View E). AreSent y.total y.number y.sent y.facts letters) is full in
      subst (λ (s : Sent E). AreSent s.total s.number s.sent known.facts letters) was
      (record {
        gone = so.gone;
        own = subst (λ (n : ℕ). of n (so.gone ++ letters) ≡ v.sent) own so.own;
        all = so.all;
        fits = fits_part so.gone letters v.facts known.facts (subst (λ (y : View E). Fits so.gone letters (joined v.facts y.facts)) copy so.fits);
      })

  -- nothing is in the queue, so what was taken is all
  pub empty_told : (v u known after : View E) (queue : TableId) (taker : Taken E) (items : List (Letter E))
      → after ≡ hearing v u → u ≡ knowing known.facts → record { queue = queue; taken = v.taken } ≡ taker → length items ≡ 0
      → Fits after.taken items after.facts → Fits taker.taken [] known.facts
  empty_told v u known after queue taker items is copy was none fits =
      let so : Fits v.taken items (joined v.facts u.facts) = subst (λ (y : View E). Fits y.taken items y.facts) is fits in
      let mine : Fits v.taken items known.facts =
      fits_part v.taken items v.facts known.facts (subst (λ (y : View E). Fits v.taken items (joined v.facts y.facts)) copy so) in
      subst (λ (t : Taken E). Fits t.taken [] known.facts) was
      (subst (λ (l : List (Letter E)). Fits v.taken l known.facts) (nil_from_length items none) mine)

  seen : TableId → View E → Taken E
  seen queue view = record { queue = queue; taken = view.taken }

  -- one more was taken
  pub step_taken : (v u after new : View E) (queue queue' : TableId) (letter : Letter E) (taker : Taken E) →
      queue' ≡ queue → after ≡ hearing v u → new ≡ with_taken after letter → record { queue = queue; taken = v.taken } ≡ taker
      → record { queue = queue'; taken = new.taken } ≡ takes taker letter.from letter.event
  unfolding seen
  step_taken v u after new queue queue' letter taker same is next was =
      let step : seen queue' new ≡ seen queue (with_taken (hearing v u) letter) =
      ap (λ (x : TableId). seen x new) same ∙ ap (seen queue) next ∙ ap (λ (y : View E). seen queue (with_taken y letter)) is in
      step ∙ ap (λ (t : Taken E). takes t letter.from letter.event) was

  pub step_kept : (v u after new : View E) (queue queue' : TableId) (taker : Taken E) →
      queue' ≡ queue → after ≡ hearing v u → new ≡ after → record { queue = queue; taken = v.taken } ≡ taker
      → record { queue = queue'; taken = new.taken } ≡ taker
  unfolding seen
  step_kept v u after new queue queue' taker same is kept was =
      let step : seen queue' new ≡ seen queue (hearing v u) =
      ap (λ (x : TableId). seen x new) same ∙ ap (seen queue) (kept ∙ is) in
      step ∙ was

  -- with some that are still there, what was taken fits what is known
  pub taken_told : (v u known after : View E) (part : List (Letter E)) → after ≡ hearing v u → u ≡ knowing known.facts
      → AreTaken part after.facts → AreTaken part known.facts
  taken_told v u known after part is copy so = (so.0, fits_told part so.0 v u known after is copy so.1)
