-- By whose leave each address was learnt by a step, and why each was forgotten: by what steps may change of them.
use Rattle.std.proofs.Common.{◌≡◌, ℕ, Bool, true, false, List, Contains, Option, Some, None, Result, Ok, ◌⊎◌, inl, inr, refl, sym, ap, subst}
use Rattle.std.proofs.lemmas.Bool.{not-false}
use Rattle.channel_uri.specs.declared.address.Address.{Address}
use Rattle.driver_core.specs.State.{State}
use Rattle.driver_core.proofs.ListLemmas.{contains_none}
use Rattle.driver_laws.specs.LearningLaws.{AddressesComeAndGoBy, AddressesComeAndGoOnlySo, IsLetIn, IsPast, IsStatusFrom, IsTurnedAway, has_learnt}
use Rattle.driver_laws.specs.StepActs.{join_verdict}
use Rattle.driver_laws.proofs.LearntRowLemmas.{gone_by, kept_was, learnt_at, missing, new_by, same_address, stays_by}
use Rattle.log_steps.specs.declared.answer.Answer.TheVariants.{Idle}
use Rattle.driver_steps.specs.declared.step.Step.{Step}
use Rattle.driver_steps.specs.declared.step.Step.TheVariants.{Packet, Send}
use Rattle.driver_steps.specs.Ends.{log_at, moved_by, RunEnd}
use Rattle.driver_steps.specs.JoinLaws.{ChangesBy, ChangesByPacket, ChangesByStatus}
use Rattle.log_steps.specs.Moves.{WholeLog}
use Rattle.driver_steps.specs.Runs.{Reading}
use Rattle.driver_steps.proofs.FoundLemmas.{found_source}
use Rattle.driver_steps.proofs.LearntLemmas.{learnt_stays}
use Rattle.frame_codec.specs.declared.fault.BadPacket.{BadPacket}
use Rattle.frame_codec.specs.declared.status_message.StatusMessage.{StatusMessage}
use Rattle.frame_codec.specs.Datagram.{Content, status, packet_of}
use Rattle.learnt_addresses.specs.declared.learnt_address.LearntAddress.{LearntAddress}
use Rattle.learnt_addresses.specs.LearntAddresses.{has, is_at, is_other, learning, learnt, stands}

-- ---- a status message

message_from : (s : State) (now : ℕ) (local from : Address) (bytes : List ℕ) (fields : StatusMessage) (log after : WholeLog) →
    packet_of bytes ≡ Ok (status fields) → (change : ChangesByStatus s now from fields log after) →
    IsStatusFrom s (Packet now local from bytes) log.source now from change.publication
message_from s now local from bytes fields log after read change = record {
  local = local;
  bytes = bytes;
  fields = fields;
  step_is = refl;
  read = read;
  publication_is = change.publication_is;
  log_is = change.number_is;
  learns = change.dynamic;
}

let_in : (s : State) (now : ℕ) (local from : Address) (bytes : List ℕ) (fields : StatusMessage) (log after : WholeLog) (row : LearntAddress) →
    packet_of bytes ≡ Ok (status fields) → (change : ChangesByStatus s now from fields log after) → (allow : Bool) →
    (join_verdict s from change.publication).allow ≡ allow → has log.recovery.learnt row.address ≡ false →
    Contains after.recovery.learnt row → IsLetIn s (Packet now local from bytes) log.source row
unfolding learnt
let_in s now local from bytes fields log after row read change true allows lacks there =
    let one : learnt_at now from ≡ row =
    new_by (learning log.recovery.learnt from) now from log.recovery.learnt row lacks
    (subst (λ (rows : List LearntAddress). Contains rows row) (change.joins allows) there) in
    subst (IsLetIn s (Packet now local from bytes) log.source) one
    (record {
      publication = change.publication;
      message = message_from s now local from bytes fields log after read change;
      allowed = allows;
    })
let_in s now local from bytes fields log after row read change false denies lacks there =
    absurd
    (kept_was (is_other from) log.recovery.learnt row lacks
    (subst (λ (rows : List LearntAddress). Contains rows row) (change.denied denies) there))

turned_away : (s : State) (now : ℕ) (local from : Address) (bytes : List ℕ) (fields : StatusMessage) (log after : WholeLog)
    (row : LearntAddress) → packet_of bytes ≡ Ok (status fields) → (change : ChangesByStatus s now from fields log after) →
    (allow : Bool) → (join_verdict s from change.publication).allow ≡ allow → Contains log.recovery.learnt row →
    has after.recovery.learnt row.address ≡ false → IsTurnedAway s (Packet now local from bytes) log.source row.address
unfolding learnt
turned_away s now local from bytes fields log after row read change true allows there lacks =
    absurd
    (stays_by (learning log.recovery.learnt from) now from log.recovery.learnt row there
    (subst (λ (rows : List LearntAddress). has rows row.address ≡ false) (change.joins allows) lacks))
turned_away s now local from bytes fields log after row read change false denies there lacks =
    let gone : is_other from row ≡ false =
    gone_by (is_other from) log.recovery.learnt row there
    (subst (λ (rows : List LearntAddress). has rows row.address ≡ false) (change.denied denies) lacks) in
    let same : row.address ≡ from = same_address row.address from (not-false (is_at from row) gone) in
    subst (IsTurnedAway s (Packet now local from bytes) log.source) (sym same)
    (record {
      now = now;
      publication = change.publication;
      message = message_from s now local from bytes fields log after read change;
      denied = denies;
    })

-- ---- any step

comes_by_packet : (s : State) (now : ℕ) (local from : Address) (bytes : List ℕ) (read : Result Content BadPacket) (log after : WholeLog)
    (row : LearntAddress) → packet_of bytes ≡ read → ChangesByPacket s now from read log after →
    has log.recovery.learnt row.address ≡ false → Contains after.recovery.learnt row →
    IsLetIn s (Packet now local from bytes) log.source row
comes_by_packet s now local from bytes (Ok (status fields)) log after row is change lacks there =
    let_in s now local from bytes fields log after row is change (join_verdict s from change.publication).allow refl lacks there
comes_by_packet s now local from bytes read log after row is change lacks there = absurd change

comes_by : (s : State) (step : Step) (log after : WholeLog) (row : LearntAddress) →
    (after.recovery.learnt ≡ log.recovery.learnt) ⊎ ChangesBy s step log after → has log.recovery.learnt row.address ≡ false →
    Contains after.recovery.learnt row → IsLetIn s step log.source row
comes_by s step log after row (inl same) lacks there =
    absurd (missing log.recovery.learnt row (subst (λ (rows : List LearntAddress). Contains rows row) same there) lacks)
comes_by s (Packet now local from bytes) log after row (inr change) lacks there =
    comes_by_packet s now local from bytes (packet_of bytes) log after row refl change lacks there
comes_by s (Send now source) log after row (inr change) lacks there =
    absurd
    (kept_was (stands now s.settings.destination_timeout) log.recovery.learnt row lacks
    (subst (λ (rows : List LearntAddress). Contains rows row) (change.1) there))
comes_by s step log after row (inr change) lacks there = absurd change

goes_by_packet : (s : State) (now : ℕ) (local from : Address) (bytes : List ℕ) (read : Result Content BadPacket) (log after : WholeLog)
    (row : LearntAddress) → packet_of bytes ≡ read → ChangesByPacket s now from read log after →
    Contains log.recovery.learnt row → has after.recovery.learnt row.address ≡ false →
    IsTurnedAway s (Packet now local from bytes) log.source row.address
goes_by_packet s now local from bytes (Ok (status fields)) log after row is change there lacks =
    turned_away s now local from bytes fields log after row is change (join_verdict s from change.publication).allow refl there lacks
goes_by_packet s now local from bytes read log after row is change there lacks = absurd change

goes_by : (s : State) (step : Step) (log after : WholeLog) (row : LearntAddress) →
    (after.recovery.learnt ≡ log.recovery.learnt) ⊎ ChangesBy s step log after → Contains log.recovery.learnt row →
    has after.recovery.learnt row.address ≡ false → IsTurnedAway s step log.source row.address ⊎ IsPast s step log.source row
goes_by s step log after row (inl same) there lacks =
    absurd (missing log.recovery.learnt row there (subst (λ (rows : List LearntAddress). has rows row.address ≡ false) same lacks))
goes_by s (Packet now local from bytes) log after row (inr change) there lacks =
    inl (goes_by_packet s now local from bytes (packet_of bytes) log after row refl change there lacks)
goes_by s (Send now source) log after row (inr change) there lacks =
    inr (record {
      now = now;
      step_is = ap (Send now) (change.0);
      past = gone_by (stands now s.settings.destination_timeout) log.recovery.learnt row there
          (subst (λ (rows : List LearntAddress). has rows row.address ≡ false) (change.1) lacks);
    })
goes_by s step log after row (inr change) there lacks = absurd change

-- ---- of the logs that were open, and of those that are

-- it went by that registry
abbrev seen_by : State → Step → Reading
seen_by s step = record { older = Some s; step = step }

comes_at : (s : State) (e : RunEnd) (step : Step) (source : ℕ) (new : WholeLog) (row : LearntAddress) (was : Option WholeLog) →
    log_at e.logs source ≡ was → log_at (moved_by s e step).after.logs source ≡ Some new → Contains new.recovery.learnt row →
    has_learnt was row.address ≡ false → IsLetIn s step source row
comes_at s e step source new row None none now_is there lacks =
    absurd
    (contains_none row
    (subst (λ (rows : List LearntAddress). Contains rows row) ((learnt_stays e).begins (seen_by s step) Idle source new none now_is) there))
comes_at s e step source new row (Some log) found now_is there lacks =
    subst (λ (n : ℕ). IsLetIn s step n row) (found_source source log e.logs found)
    (comes_by s step log new row ((learnt_stays e).stays (seen_by s step) Idle source log new found now_is) lacks there)

one_of_three : {A B C : Type 0} → A ⊎ B → A ⊎ (B ⊎ C)
one_of_three (inl a) = inl a
one_of_three (inr b) = inr (inl b)

goes_at : (s : State) (e : RunEnd) (step : Step) (source : ℕ) (log : WholeLog) (row : LearntAddress) (left : Option WholeLog) →
    log_at (moved_by s e step).after.logs source ≡ left → log_at e.logs source ≡ Some log → Contains log.recovery.learnt row →
    has_learnt left row.address ≡ false →
    IsTurnedAway s step source row.address ⊎ (IsPast s step source row ⊎ (log_at (moved_by s e step).after.logs source ≡ None))
goes_at s e step source log row None none found there lacks = inr (inr none)
goes_at s e step source log row (Some new) now_is found there lacks =
    subst
    (λ (n : ℕ).
    IsTurnedAway s step n row.address ⊎ (IsPast s step n row ⊎ (log_at (moved_by s e step).after.logs source ≡ None)))
    (found_source source log e.logs found)
    (one_of_three (goes_by s step log new row ((learnt_stays e).stays (seen_by s step) Idle source log new found now_is) there lacks))

come_and_go : (s : State) (e : RunEnd) → AddressesComeAndGoBy s e
come_and_go s e = record {
  comes = λ step source new row now_is there lacks.
      comes_at s e step source new row (log_at e.logs source) refl now_is there lacks;
  goes = λ step source log row found there lacks.
      goes_at s e step source log row (log_at (moved_by s e step).after.logs source) refl found there lacks;
}

pub addresses_come_and_go : AddressesComeAndGoOnlySo
addresses_come_and_go settings policy peers readings answers k sound are = come_and_go _ _
