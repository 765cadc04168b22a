-- The sizes of a publication's log are sound, its numbers have 32 bits, and it begins at position 0.
use Rattle.std.proofs.Common.{◌≡◌, ℕ, ◌%◌, true, List, Some, refl, sym, subst, arith}
use Rattle.std.specs.Int.{w32}
use Rattle.std.specs.Prelude.{FitsSigned}
use Rattle.std.proofs.lemmas.List.Elements.{All-contains}
use Rattle.log_traffic.specs.Held.{for_publication}
use Rattle.log_traffic.specs.Whole.{AnyWhole, whole, rebuilt, made_for as made_any}
use Rattle.driver_core.specs.declared.state.peer.Peer.{Peer}
use Rattle.driver_core.specs.declared.state.settings.Settings.{Settings}
use Rattle.driver_core.specs.Soundness.{AreSizes}
use Rattle.driver_laws.specs.WidthLaws.{AreSettingsOf32Bits, HasNumbersOf32Bits, IsOf32Bits}
use Rattle.driver_laws.proofs.WidthLemmas.{publications_fit}
use Rattle.log_steps.specs.declared.answer.Answer.{Answer}
use Rattle.driver_steps.specs.Ends.{RunEnd, log_at, opening_end}
use Rattle.log_steps.specs.Idents.{ident_of, made_by, made_of}
use Rattle.driver_steps.specs.Laws.{taken_from}
use Rattle.log_steps.specs.Moves.{WholeLog}
use Rattle.driver_steps.specs.Runs.{Reading, end_of}
use Rattle.driver_steps.proofs.EndLemmas.{runs_take}
use Rattle.driver_steps.proofs.FollowLemmas.{Follows}
use Rattle.two_drivers.specs.Sending.{IsFit}
use Rattle.policy_core.specs.RuleList.{Rules}
use Rattle.stream_registry.specs.Origins.{is_published, is_published_by}
use Rattle.stream_registry.specs.declared.row.Origin.{Origin}
use Rattle.stream_registry.specs.declared.row.Origin.TheVariants.{Published, Remote}
use Rattle.stream_registry.specs.declared.row.LogRow.{LogRow}
use Rattle.term_log.specs.declared.ident.Ident.{Ident}
use Rattle.term_log.specs.Ident.{IsIdent}
use Rattle.term_log.specs.Whole.{Whole}
use Rattle.two_drivers.proofs.AskedLemmas.{row_made}
use Rattle.two_drivers.specs.Sent.{IsFitLog}

-- whole pages are whole words
whole_words : (n : ℕ) → n % 4096 ≡ 0 → n % 32 ≡ 0
whole_words n whole' = omega (arith, whole')

ident_sound : (settings : Settings) (row : LogRow) → AreSizes row.measures → IsIdent (ident_of settings row)
ident_sound settings row sizes = record {
  term_low = sizes.term_low;
  term_high = sizes.term_high;
  term_aligned = whole_words row.measures.term_length sizes.term_whole;
  mtu_low = sizes.mtu_low;
  mtu_high = sizes.mtu_high;
  mtu_aligned = sizes.mtu_aligned;
  start_aligned = omega arith;
  start_below = (let low = sizes.term_low in omega (arith, low));
}

sizes_by : (settings : Settings) (row : LogRow) (origin : Origin) (w : Whole) → AreSizes row.measures → for_publication w.ident ≡ made_by settings row origin →
    IsIdent w.ident
sizes_by settings row (Published exclusive since) w sizes made =
    let same : w.ident ≡ ident_of settings row = cc made in
    subst IsIdent (sym same) (ident_sound settings row sizes)
sizes_by settings row (Remote address initial_term join) w sizes made = absurd (cc made)

-- of the numbers of its row, and of the settings by which it is made
numbers_by : (settings : Settings) (row : LogRow) (origin : Origin) (w : Whole) → FitsSigned w32 settings.initial_term →
    (is_published_by origin ≡ true → IsOf32Bits row) → IsIdent w.ident → for_publication w.ident ≡ made_by settings row origin → IsFit w.ident
numbers_by settings row (Published exclusive since) w initial_term numbers sizes made =
    let same : w.ident ≡ ident_of settings row = cc made in
    record {
      sizes = sizes;
      session = subst (λ (i : Ident). FitsSigned w32 i.session) (sym same) (numbers refl).session;
      stream = subst (λ (i : Ident). FitsSigned w32 i.stream) (sym same) (numbers refl).stream;
      initial_term = subst (λ (i : Ident). FitsSigned w32 i.initial_term) (sym same) initial_term;
    }
numbers_by settings row (Remote address first_term join) w initial_term numbers sizes made = absurd (cc made)

fit_by : (settings : Settings) (row : LogRow) (a : AnyWhole) → AreSizes row.measures → FitsSigned w32 settings.initial_term →
    (is_published row ≡ true → IsOf32Bits row) → made_any a ≡ made_of settings row → IsFitLog a
fit_by settings row (whole w) sizes initial_term numbers made =
    numbers_by settings row row.origin w initial_term numbers (sizes_by settings row row.origin w sizes made) made
fit_by settings row (rebuilt r) sizes initial_term numbers made = tt

pub fit_of : (n : ℕ) (e : RunEnd) (log : WholeLog) → Follows e → HasNumbersOf32Bits e.registry → log_at e.logs n ≡ Some log → IsFitLog log.whole
fit_of n e log follows numbers live =
    let of = row_made e.registry.settings n log e.logs e.registry.streams.sources follows.logs.made live in
    fit_by e.registry.settings of.row log.whole
    (All-contains (λ (row : LogRow). AreSizes row.measures) e.registry.streams.sources of.row follows.sound.sizes of.has) numbers.initial_term
    (numbers.publications of.row of.has) of.made

-- so is what the log of a publication is made for at each end of a run
pub end_numbers : (settings : Settings) (policy : Rules) (peers : List Peer) (readings : List Reading) (answers : List Answer) →
    AreSettingsOf32Bits settings → HasNumbersOf32Bits (end_of (opening_end settings policy peers) readings answers).registry
end_numbers settings policy peers readings answers fit =
    subst HasNumbersOf32Bits (sym (runs_take settings policy peers readings answers).leaves)
    (publications_fit settings policy peers (taken_from (opening_end settings policy peers) readings answers) fit)
