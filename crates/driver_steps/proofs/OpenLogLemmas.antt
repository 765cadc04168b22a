-- Lists of logs: the first of a source, those that are left, and who reads them.
use Rattle.std.proofs.Common.{◌≡◌, ℕ, zero, suc, ◌+◌, ◌<◌, ◌≤◌, ◌==◌, Bool, true, false, not, cond, List, [], ◌∷◌, ◌++◌, append_assoc, get_or-append-add, length, get_or, take, drop, map, Option, Some, None, refl, sym, ap, ap₂, subst, ◌∙◌, arith}
use Rattle.std.specs.Prelude.{nat_lt, slice_set}
use Rattle.std.specs.List.{position_or_len}
use Rattle.std.proofs.lemmas.Bool.{ltb-false, ltb-true}
use Rattle.std.proofs.lemmas.List.{drop_more, length-map, length-take-le, map-append, take_more}
use Rattle.log_traffic.specs.Held.{rejoined_held as rejoined_any}
use Rattle.log_steps.specs.declared.answer.Answer.{Answer}
use Rattle.driver_core.specs.Readers.{readers_of}
use Rattle.log_steps.specs.Held.{HeldLog, LiesAsBefore}
use Rattle.driver_steps.specs.OpenLogs.{HeldLogs, held_at, with_held, place_at, with_readers, rejoined_held, GivesFirst, GivesHeld, MovesFirst, MovesHeld}
use Rattle.log_steps.specs.Memory.{Gives}
use Rattle.log_steps.specs.Moves.{WholeLog, Move, Does}
use Rattle.stream_registry.specs.declared.pairs.Pair.{Pair}

-- ---- the first of a source

-- what a place among the logs is, if it is one: that of the log that was found, and that another takes
record Points (logs : List HeldLog) (found : Option HeldLog) (changed : HeldLog → List HeldLog) (at : ℕ) : Type 0 where
  there : at < length logs → (d : HeldLog) → found ≡ Some (get_or logs at d)
  written : at < length logs → (log : HeldLog) → changed log ≡ slice_set logs at log
  past : length logs ≤ at → found ≡ None

first_step : (b : Bool) (first : HeldLog) (logs : List HeldLog) (found : Option HeldLog) (changed : HeldLog → List HeldLog) (at : ℕ)
    → Points logs found changed at
    → Points (first ∷ logs) (cond b (Some first) found) (λ log. cond b (log ∷ logs) (first ∷ changed log)) (cond (not b) (1 + at) 0)
first_step true first logs found changed at rest = record {
  there = λ l d. refl;
  written = λ l log. refl;
  past = λ l. absurd (omega arith);
}
first_step false first logs found changed at rest = record {
  there = λ l d. rest.there (omega arith) d ∙ ap (λ n. Some (get_or (first ∷ logs) n d)) (let e : suc at ≡ 1 + at = omega arith in e);
  written = λ l log.
      ap (λ t. first ∷ t) (rest.written (omega arith) log)
      ∙ ap (λ n. slice_set (first ∷ logs) n log) (let e : suc at ≡ 1 + at = omega arith in e);
  past = λ l. rest.past (omega arith);
}

points : (logs : List HeldLog) (source : ℕ)
    → Points logs (held_at logs source) (with_held logs source) (position_or_len (λ held. held.source == source) logs)
points [] source = record { there = λ l d. absurd (omega arith); written = λ l log. refl; past = λ l. refl }
points (first ∷ logs) source =
    first_step (first.source == source) first logs (held_at logs source) (with_held logs source)
    (position_or_len (λ held. held.source == source) logs) (points logs source)

abbrev number_of : Option ℕ → ℕ
number_of None = 0
number_of (Some n) = n

pub found_at : (logs : List HeldLog) (source at : ℕ) → place_at logs source ≡ Some at
    → (at < length logs) × ((d : HeldLog) → held_at logs source ≡ Some (get_or logs at d))
    × ((log : HeldLog) → with_held logs source log ≡ slice_set logs at log)
found_at logs source at is = by (nat_lt n (length logs)) refl is
  where
    n : ℕ
    n = position_or_len (λ held. held.source == source) logs

    by : (b : Bool) → nat_lt n (length logs) ≡ b → cond b (Some n) None ≡ Some at
        → (at < length logs) × ((d : HeldLog) → held_at logs source ≡ Some (get_or logs at d))
        × ((log : HeldLog) → with_held logs source log ≡ slice_set logs at log)
    by true low e =
        let same : n ≡ at = ap number_of e in
        let within : n < length logs = ltb-true n (length logs) low in
        let told = points logs source in
        subst (λ k. (k < length logs) × ((d : HeldLog) → held_at logs source ≡ Some (get_or logs k d))
        × ((log : HeldLog) → with_held logs source log ≡ slice_set logs k log)) same (within, told.there within, told.written within)
    by false low e = absurd (cc)

pub found_nowhere : (logs : List HeldLog) (source : ℕ) → place_at logs source ≡ None → held_at logs source ≡ None
found_nowhere logs source is = by (nat_lt n (length logs)) refl is
  where
    n : ℕ
    n = position_or_len (λ held. held.source == source) logs

    by : (b : Bool) → nat_lt n (length logs) ≡ b → cond b (Some n) None ≡ None → held_at logs source ≡ None
    by true low e = absurd (cc)
    by false low e = (points logs source).past (ltb-false n (length logs) low)

-- ---- the first of a source moves

-- there is none
pub moves_none : (source : ℕ) (move : WholeLog → Move) (absent : Answer) (held : HeldLogs) → place_at held.logs source ≡ None
    → MovesFirst source move absent held held absent
moves_none source move absent held none =
    subst (λ o. MovesHeld source move absent held held absent o) (sym (found_nowhere held.logs source none)) (refl, refl)

-- the one at that place is another now
pub moves_at : (source : ℕ) (move : WholeLog → Move) (absent answer : Answer) (old : HeldLogs) (at : ℕ) (held log : HeldLog)
    → place_at old.logs source ≡ Some at → held ≡ get_or old.logs at held → Does move held log answer → LiesAsBefore held log
    → let new : HeldLogs = record old { logs = slice_set old.logs at log } in MovesFirst source move absent old new answer
moves_at source move absent answer old at held log place is does lies =
    let told = found_at old.logs source at place in
    let found : held_at old.logs source ≡ Some held = told.1 held ∙ ap Some (sym is) in
    let new : HeldLogs = record old { logs = slice_set old.logs at log } in
    subst (λ o. MovesHeld source move absent old new answer o) (sym found)
    (log, does, lies, ap (λ l. let h : HeldLogs = record old { logs = l } in h) (sym (told.2 log)))

-- the one at that place gives fragments
pub gives_at : (source : ℕ) (move : WholeLog → Move) (old : HeldLogs) (at : ℕ) (held : HeldLog) → place_at old.logs source ≡ Some at
    → held ≡ get_or old.logs at held → Gives move held → GivesFirst source move old
gives_at source move old at held place is gives =
    let told = found_at old.logs source at place in
    let found : held_at old.logs source ≡ Some held = told.1 held ∙ ap Some (sym is) in
    subst (λ o. GivesHeld move o) (sym found) gives

-- ---- who reads

pub readers_set : (logs : List HeldLog) (at : ℕ) (subscriptions : List ℕ) (log : HeldLog) → at < length logs
    → ((d : HeldLog) → log ≡ record (get_or logs at d) { log = rejoined_any subscriptions (get_or logs at d).log })
    → slice_set logs at log ≡ with_readers at subscriptions logs
readers_set [] at subscriptions log within is = absurd (omega arith)
readers_set (held ∷ logs) zero subscriptions log within is = ap (λ (h : HeldLog). h ∷ logs) (is held)
readers_set (held ∷ logs) (suc at) subscriptions log within is =
    ap (λ l. held ∷ l) (readers_set logs at subscriptions log (omega arith) is)

readers_front : (pre : List HeldLog) (held : HeldLog) (others : List HeldLog) (subscriptions : List ℕ)
    → let read : HeldLog = record held { log = rejoined_any subscriptions held.log } in
    with_readers (length pre) subscriptions (pre ++ held ∷ others) ≡ pre ++ read ∷ others
readers_front [] held others subscriptions = refl
readers_front (first ∷ pre) held others subscriptions = ap (λ l. first ∷ l) (readers_front pre held others subscriptions)

-- one log more is read by the subscriptions of these pairs
pub rejoin_more : (pairs : List Pair) (old now new : List HeldLog) (at : ℕ) (held : HeldLog) (subscriptions : List ℕ) → at < length old
    → now ≡ map (rejoined_held pairs) (take at old) ++ drop at old → held ≡ get_or now at held → subscriptions ≡ readers_of pairs held.source
    → new ≡ with_readers at subscriptions now → new ≡ map (rejoined_held pairs) (take (at + 1) old) ++ drop (at + 1) old
rejoin_more pairs old now new at held subscriptions within is found read more =
    let f : HeldLog → HeldLog = rejoined_held pairs in
    let pre : List HeldLog = map f (take at old) in
    let here : HeldLog = get_or old at held in
    let rest : List HeldLog = drop (at + 1) old in
    let long : length pre ≡ at = length-map (take at old) f ∙ length-take-le at old (omega arith) in
    let parts : now ≡ pre ++ here ∷ rest = is ∙ ap (λ l. pre ++ l) (drop_more old at held within) in
    let place : at ≡ length pre + 0 = omega (arith, long) in
    let same : held ≡ here =
    found ∙ ap₂ (λ l n. get_or l n held) parts place ∙ get_or-append-add pre (here ∷ rest) 0 held in
    let read_here : subscriptions ≡ readers_of pairs here.source = read ∙ ap (λ (h : HeldLog). readers_of pairs h.source) same in
    let done : with_readers at subscriptions now ≡ pre ++ f here ∷ rest =
    ap₂ (λ n l. with_readers n subscriptions l) (sym long) parts ∙ readers_front pre here rest subscriptions
    ∙ ap (λ s. let h : HeldLog = record here { log = rejoined_any s here.log } in pre ++ h ∷ rest) read_here in
    let front : map f (take (at + 1) old) ≡ pre ++ f here ∷ [] =
    ap (map f) (take_more old at held within) ∙ map-append f (take at old) (here ∷ []) in
    more ∙ done ∙ sym (append_assoc pre (f here ∷ []) rest) ∙ ap (λ l. l ++ rest) (sym front)
