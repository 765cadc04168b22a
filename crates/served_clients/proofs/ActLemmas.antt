-- What holds of calls of a seat holds of the client in it.
use Rattle.std.proofs.Common.{◌≡◌, ℕ, Bool, List, [], ◌∷◌, ◌++◌, All, Option, Some, None, Result, Ok, Err, option_to_list, ap, ◌∙◌, append-nil, inl, inr, refl, subst, sym}
use Rattle.command_codec.specs.declared.command.Body.TheVariants.{ClientKeepalive}
use Rattle.driver_service.specs.Calls.{Call, CallsOnly, Does, Stay, Command, Offer, Poll, Mail, Look, Value, Publication, Image, Run}
use Rattle.driver_service.specs.Requests.{IsOwn}
use Rattle.driver_service.specs.declared.reason.Refusal.{Refusal}
use Rattle.log_arena.specs.Homes.{Home}
use Rattle.media_agents.specs.Mails.{Posted}
use Rattle.media_driver.specs.Clients.{Attached, Commands, Looks, TakesMail}
use Rattle.media_driver.specs.Positions.{IsReadingShown, reading_of}
use Rattle.media_driver.specs.declared.faults.PositionFault.{PositionFault}
use Rattle.media_driver.specs.declared.faults.PushFault.{PushFault}
use Rattle.media_driver.specs.declared.positions.ImagePositions.{ImagePositions as ReadPositions}
use Rattle.published_registry.specs.Histories.{registry_of}
use Rattle.reading_progress.specs.Pairs.{pair_at}
use Rattle.reading_progress.specs.Watches.{Watching}
use Rattle.reading_progress.specs.declared.pairs.Pair.{Pair}
use Rattle.service_records.specs.Request.{request_of}
use Rattle.service_streams.specs.Acting.{Acts, ActsOn}
use Rattle.served_clients.specs.Denying.{Hears}
use Rattle.served_clients.specs.Watching.{after_looking}
use Rattle.served_clients.specs.Acts.{Admits, Follows, IsAct, IsTended, LooksAt, NextReply, Says, Serving, Sitting, Stays, TakesReply, Tends, sitting}

-- ---- a view of what makes calls: what each call makes of it is what `acts` says of the view

pub record Views {S U : Type 0} (does : Does S) (acts : Does U) (view : S → U) : Type 0 where
  pub each : (a : S) (call : Call) (b : S) → does a call b → acts (view a) call (view b)

run_as : {S U : Type 0} (does : Does S) (acts : Does U) (view : S → U) → Views does acts view → (old : S) (calls : List Call) (new : S) → Run does old calls new → Run acts (view old) calls (view new)
run_as does acts view views old [] new run = ap view run
run_as does acts view views old (call ∷ calls) new run = (view run.0, views.each old call run.0 run.1, run_as does acts view views run.0 calls new run.2)

calls_as : {S U : Type 0} (does : Does S) (acts : Does U) (view : S → U) → Views does acts view → (own : Call → Type 0) (old new : S) → CallsOnly does own old new → CallsOnly acts own (view old) (view new)
calls_as does acts view views own old new c = record { calls = c.calls; each = c.each; run = run_as does acts view views old c.calls new c.run }

acts_on_as : {S U : Type 0} (does : Does S) (acts : Does U) (view : S → U) → Views does acts view → (records : List (List ℕ)) (old new : S) → ActsOn does records old new → ActsOn acts records (view old) (view new)
acts_on_as does acts view views [] old new run = ap view run
acts_on_as does acts view views (bytes ∷ records) old new run = (view run.0, calls_as does acts view views (IsOwn (request_of bytes)) old run.0 run.1, acts_on_as does acts view views records run.0 new run.2)

-- what a connection did, as acts of its client
pub acts_as : {S U : Type 0} {does : Does S} (acts : Does U) (old new : S) → Acts does old new → (view : S → U) → ((a : S) (call : Call) (b : S) → does a call b → acts (view a) call (view b)) → Acts acts (view old) (view new)
acts_as {does = does} acts old new a view each = record { records = a.records; run = acts_on_as does acts view (record { each = each }) a.records old new a.run }

-- ---- a client is tended, step by step

follows_all : (old : Sitting) (steps : List Sitting) (mid : Sitting) (others : List Sitting) (new : Sitting) → Follows old steps mid → Follows mid others new → Follows old (steps ++ others) new
follows_all old [] mid others new first then = subst (λ (x : Sitting). Follows x others new) first then
follows_all old (next ∷ steps) mid others new first then = (first.0, follows_all next steps mid others new first.1 then)

pub tends_none : (old : Sitting) → Tends old old
tends_none old = ([], refl)

pub tends_once : (old new : Sitting) → IsTended old new → Tends old new
tends_once old new step = (new ∷ [], (step, refl))

pub tends_both : (old mid new : Sitting) → Tends old mid → Tends mid new → Tends old new
tends_both old mid new first then = (first.0 ++ then.0, follows_all old first.0 mid then.0 new first.1 then.1)

pub tends_same : (client : Attached) (old new : List Posted) → new ≡ old → Tends (sitting client old) (sitting client new)
tends_same client old new same = ([], ap (λ (kept : List Posted). sitting client kept) same)

pub tends_keeps : (old new : Attached) (kept after : List Posted) (mail : Option Posted) → TakesMail old new mail → after ≡ kept ++ option_to_list mail → Tends (sitting old kept) (sitting new after)
tends_keeps old new kept after mail taken behind = tends_once (sitting old kept) (sitting new after) (inl (mail, (taken, behind)))

pub tends_empty : (old new : Attached) (kept after : List Posted) → TakesMail old new None → after ≡ kept → Tends (sitting old kept) (sitting new after)
tends_empty old new kept after taken same = tends_keeps old new kept after None taken (same ∙ sym (append-nil kept))

pub tends_watches : (old new : Attached) (kept after : List Posted) → Looks old new → after ≡ kept → Tends (sitting old kept) (sitting new after)
tends_watches old new kept after looks same = tends_once (sitting old kept) (sitting new after) (inr (looks, same))

pub looks_at : (home : Home) (old new : Attached) (was is : Watching) (place now : ℕ) (pair : Pair) (gave : Result ReadPositions PositionFault) →
    pair_at place was.pairs ≡ Some pair → Looks old new →
    IsReadingShown home pair.subscription (reading_of (registry_of new.known) old.number pair.subscription pair.source) gave →
    is ≡ after_looking now pair gave was → LooksAt home old new was is place
looks_at home old new was is place now pair gave there looks shown watch = record {
  now = now;
  pair = pair;
  gave = gave;
  there = there;
  looks = looks;
  shown = shown;
  watch = watch;
}

pub stays_so : (old tended new : Attached) (kept between after : List Posted) → Tends (sitting old kept) (sitting tended between) → Says tended new → after ≡ between →
    Stays (sitting old kept) (sitting new after)
stays_so old tended new kept between after tends says same = record { tended = sitting tended between; tends = tends; says = says; kept = same }

pub next_kept : (client new : Attached) (kept after : List Posted) (first : Posted) → kept ≡ first ∷ after → new ≡ client → NextReply (sitting client kept) (sitting new after) (Some first)
next_kept client new kept after first split same = inl (first, refl, split, same)

pub next_taken : (old new : Attached) (kept after : List Posted) (mail : Option Posted) → kept ≡ [] → after ≡ [] → TakesMail old new mail → NextReply (sitting old kept) (sitting new after) mail
next_taken old new kept after mail none still taken = inr (none, still, taken)

-- ---- it is one client

commands_one : (old new : Attached) (gave : Result ℕ PushFault) → Commands old new ClientKeepalive gave → new.number ≡ old.number
commands_one old new (Ok correlation) pushes = ap (λ (a : Attached). a.number) pushes.new_is
commands_one old new (Err fault) refused = ap (λ (a : Attached). a.number) refused.0.new_is

says_one : (old new : Attached) → Says old new → new.number ≡ old.number
says_one old new says =
    elim says [
      | inl same ↦ ap (λ (a : Attached). a.number) same
      | inr said ↦ commands_one old new said.0 said.1
    ]

mail_one : (old new : Attached) (mail : Option Posted) → TakesMail old new mail → new.number ≡ old.number
mail_one old new None none = ap (λ (a : Attached). a.number) none.passes.new_is
mail_one old new (Some mail) own = ap (λ (a : Attached). a.number) own.new_is

tended_one : (old new : Sitting) → IsTended old new → new.client.number ≡ old.client.number
tended_one old new step =
    elim step [
      | inl keeps ↦ mail_one old.client new.client keeps.0 keeps.1.0
      | inr watches ↦ ap (λ (a : Attached). a.number) watches.0.new_is
    ]

follows_one : (old : Sitting) (steps : List Sitting) (new : Sitting) → Follows old steps new → new.client.number ≡ old.client.number
follows_one old [] new same = ap (λ (x : Sitting). x.client.number) same
follows_one old (next ∷ others) new run = follows_one next others new run.1 ∙ tended_one old next run.0

stays_one : (old new : Sitting) → Stays old new → new.client.number ≡ old.client.number
stays_one old new stays = says_one stays.tended.client new.client stays.says ∙ follows_one old stays.tends.0 stays.tended stays.tends.1

next_one : (old new : Sitting) (mail : Option Posted) → NextReply old new mail → new.client.number ≡ old.client.number
next_one old new mail next =
    elim next [
      | inl kept ↦ ap (λ (a : Attached). a.number) kept.3
      | inr taken ↦ mail_one old.client new.client mail taken.2
    ]

reply_one : (old new : Sitting) (written : List ℕ) (told : Result Bool Refusal) → TakesReply old new written told → new.client.number ≡ old.client.number
reply_one old new written told act = ap (λ (a : Attached). a.number) act.looks.new_is ∙ next_one old act.between act.mail act.taken

act_one : {K : Type 0} (home : Home) (admits : Admits K) (hears : Hears K) (old : Serving K) (call : Call) (new : Serving K) → IsAct home admits hears old call new → new.0.client.number ≡ old.0.client.number
act_one home admits hears old Stay new act = stays_one old.0 new.0 act
act_one home admits hears old (Command bytes None) new act = ap (λ (a : Attached). a.number) act.0.1.new_is
act_one home admits hears old (Command bytes (Some refusal)) new act = ap (λ (a : Attached). a.number) act.0.0.new_is
act_one home admits hears old (Offer registration message told) new act = ap (λ (a : Attached). a.number) act.0.same
act_one home admits hears old (Poll subscription source limit written told) new act = ap (λ (a : Attached). a.number) act.0.looks.new_is
act_one home admits hears old (Mail written told) new act = reply_one old.0 new.0 written told act
act_one home admits hears old (Look written told) new act = ap (λ (a : Attached). a.number) act.0.looks.new_is
act_one home admits hears old (Value number told) new act = ap (λ (a : Attached). a.number) act.0.looks.new_is
act_one home admits hears old (Publication registration told) new act = ap (λ (a : Attached). a.number) act.0.looks.new_is
act_one home admits hears old (Image subscription source told) new act = ap (λ (a : Attached). a.number) act.0.looks.new_is

run_one_client : {K : Type 0} (home : Home) (admits : Admits K) (hears : Hears K) (old : Serving K) (calls : List Call) (new : Serving K) →
    Run (IsAct home admits hears) old calls new → new.0.client.number ≡ old.0.client.number
run_one_client {K} home admits hears old [] new run = ap (λ (a : Serving K). a.0.client.number) run
run_one_client home admits hears old (call ∷ calls) new run = run_one_client home admits hears run.0 calls new run.2 ∙ act_one home admits hears old call run.0 run.1

acts_on_one : {K : Type 0} (home : Home) (admits : Admits K) (hears : Hears K) (records : List (List ℕ)) (old new : Serving K) →
    ActsOn (IsAct home admits hears) records old new → new.0.client.number ≡ old.0.client.number
acts_on_one {K} home admits hears [] old new run = ap (λ (a : Serving K). a.0.client.number) run
acts_on_one home admits hears (bytes ∷ records) old new run =
    acts_on_one home admits hears records run.0 new run.2 ∙ run_one_client home admits hears old run.1.calls run.0 run.1.run

pub acts_one : {K : Type 0} (home : Home) (admits : Admits K) (hears : Hears K) (old new : Serving K) → Acts (IsAct home admits hears) old new → new.0.client.number ≡ old.0.client.number
acts_one home admits hears old new a = acts_on_one home admits hears a.records old new a.run
