use Rattle.std.specs.Vec.{vec_capacity}
use Rattle.std.proofs.Common.{rules, ◌≡◌, ◌*◌, ◌/◌, ◌%◌, ◌<◌, ◌++◌, ◌∷◌, true, List, [], sym, ap, ap₂, subst, ◌∙◌, arith}
use Rattle.log_traffic.specs.declared.any_log.AnyLog.{AnyLog}
use Rattle.log_traffic.specs.declared.any_log.AnyLog.TheVariants.{Term}
use Rattle.term_log.specs.Kept.{opened}
use Rattle.term_log.specs.Sender.{sending}
use Rattle.log_steps.specs.Held.{HeldLog, plot_of, plot_on}
use Rattle.driver_steps.specs.OpenLogs.{HeldLogs, plots_of}
use Rattle.log_steps.specs.Plots.{IsLeastVacant, Plot}
use Rattle.log_steps.specs.Recovery.{recovering}
use Rattle.driver_steps.proofs.HousedLemmas.{IsLeaseOf, housed_leased, least_is, some_place}
use Rattle.log_arena.specs.Lease.{lease_home, lease_place}
use Rattle.log_arena.specs.Pages.{IsLeastPlace, Region, marked}
use Rattle.stream_registry.specs.LogPages.{pages_of}
use Rattle.driver_steps.proofs.open_logs.OpenLogs.open.Goals as goal

pub unreachable-requires : goal.unreachable-requires
unreachable-requires c =
    let vacant = subst (λ (h : HeldLogs). IsLeastVacant h.pages (plots_of h.logs) (pages_of c.args.ident.term_length) c.args.place) (sym c.self.view_is) c.requires.vacant in
    some_place c.self.inside.arena (plots_of c.self.inside.logs.items) (pages_of c.args.ident.term_length) c.args.place c.self.invariant vacant
    c.in_default.ensures.none

pub invariant_of-self : goal.invariant_of-self
invariant_of-self c =
    let held : HeldLog = c.of_publication-log.result in
    let logs : List HeldLog = c.self.inside.logs.items in
    let exact : held ≡ record {
      source = c.args.source;
      log = Term (record { kept = opened c.in-Ok.lease c.args.ident; pairs = []; sender = sending c.args.ident.start });
      recovery = recovering c.args.settings;
    } =
    c.of_publication-log.ensures.exact in
    let plot : plot_of held ≡ plot_on c.args.source (record { home = lease_home c.in-Ok.lease; place = lease_place c.in-Ok.lease; term_length = c.args.ident.term_length }) =
    ap plot_of exact in
    let more : c.push_reserved.new.self.items ≡ logs ++ held ∷ [] = search rules in
    let terms : (plot_of held).term_length ≡ c.args.ident.term_length = ap (λ (p : Plot). p.term_length) plot in
    let of : IsLeaseOf (plot_of held) c.in-Ok.lease = record {
      home = sym (ap (λ (p : Plot). p.home) plot);
      place = sym (ap (λ (p : Plot). p.place) plot);
      len = c.in-Ok.ensures.long ∙ ap (λ n. 3 * n) (sym terms);
    } in
    housed_leased c.self.inside.arena c.lease.new.self logs c.push_reserved.new.self.items held c.in-Ok.lease of
    (omega (arith, terms, c.requires.ident.term_low)) (ap (λ n. n % 4096) terms ∙ c.requires.whole)
    (subst (λ n. IsLeastPlace c.self.inside.arena.leased (pages_of n) (lease_place c.in-Ok.lease / 4096)) (sym terms) c.in-Ok.ensures.least)
    c.in-Ok.ensures.here
    (c.in-Ok.ensures.taken
    ∙ ap (λ n. let r : Region = record c.self.inside.arena { leased = marked true (lease_place c.in-Ok.lease / 4096) (pages_of n) c.self.inside.arena.leased } in r) (sym terms))
    more c.self.invariant

pub returns : goal.returns
returns c =
    let held : HeldLog = c.of_publication-log.result in
    let logs : List HeldLog = c.self.inside.logs.items in
    let exact : held ≡ record {
      source = c.args.source;
      log = Term (record { kept = opened c.in-Ok.lease c.args.ident; pairs = []; sender = sending c.args.ident.start });
      recovery = recovering c.args.settings;
    } =
    c.of_publication-log.ensures.exact in
    let plot : plot_of held ≡ plot_on c.args.source (record { home = lease_home c.in-Ok.lease; place = lease_place c.in-Ok.lease; term_length = c.args.ident.term_length }) =
    ap plot_of exact in
    let that : HeldLog = record { source = c.args.source; log = held.log; recovery = recovering c.args.settings } in
    let same : held ≡ that =
    exact
    ∙ ap (λ (l : AnyLog). let h : HeldLog = record { source = c.args.source; log = l; recovery = recovering c.args.settings } in h)
    (sym (ap (λ (h : HeldLog). h.log) exact)) in
    let vacant = subst (λ (h : HeldLogs). IsLeastVacant h.pages (plots_of h.logs) (pages_of c.args.ident.term_length) c.args.place) (sym c.self.view_is) c.requires.vacant in
    let some : 0 < pages_of c.args.ident.term_length = omega (arith, c.requires.ident.term_low) in
    let place : lease_place c.in-Ok.lease / 4096 ≡ c.args.place =
    least_is c.self.inside.arena (plots_of logs) (pages_of c.args.ident.term_length) c.args.place (lease_place c.in-Ok.lease / 4096) some
    c.self.invariant vacant c.in-Ok.ensures.least in
    let at : (plot_of held).place ≡ lease_place c.in-Ok.lease = ap (λ (p : Plot). p.place) plot in
    let pushed : c.push_reserved.new.self.items ≡ logs ++ held ∷ [] = search rules in
    let more : c.push_reserved.new.self.items ≡ logs ++ that ∷ [] = pushed ∙ ap (λ (h : HeldLog). logs ++ h ∷ []) same in
    let pages : c.lease.new.self.home.pages ≡ c.self.inside.arena.home.pages = ap (λ (r : Region). r.home.pages) c.in-Ok.ensures.taken in
    record {
      log = held.log;
      stands = c.of_publication-log.ensures.stands;
      place_is = omega (arith, at, place, c.in-Ok.lease.housed.whole_place);
      terms_are = ap (λ (p : Plot). p.term_length) plot;
      new_is =
          ap₂ (λ p l. let h : HeldLogs = record { pages = p; logs = l; room = vec_capacity c.push_reserved.new.self } in h) pages more
          ∙ ap (λ r. let h : HeldLogs = record { pages = c.self.inside.arena.home.pages; logs = logs ++ that ∷ []; room = r } in h)
          c.push_reserved.ensures.capacity
          ∙ ap (λ (h : HeldLogs). let g : HeldLogs = record h { logs = h.logs ++ that ∷ [] } in g) c.self.view_is;
    }
