use Rattle.std.proofs.Common.{◌≡◌, ◌≤◌, ◌++◌, ℕ, List, [], length, inl, inr, refl, sym, subst, ⊎_elim, rules, arith}
use Rattle.policy_table.specs.Rows.{AreLines, entry_of, entry_rows}
use Rattle.policy_table.proofs.PrintLemmas.{entries_less, entries_moved, lines_then, rows_then}
use Rattle.policy_table.proofs.table.Table.page.Goals as goal

pub loop-alloc-preserved : goal.loop-alloc-preserved
loop-alloc-preserved c =
    let before = c.loop-alloc.invariant in
    let entry = entry_of c.in_ok-step.step in
    let moved = entries_moved c.args.self.now.source.policy.rules c.rules.result.now c.args.self.now.groups.items c.as_slice.result.now _ _ _ _ entry
    c.rules.ensures.value c.as_slice.ensures.value c.in_ok-step.ensures in (
      before.0 ++ entry_rows entry,
      lines_then before.0 (entry_rows entry) _ _ before.1 c.in_ok-push_lines.ensures,
      rows_then _ _ entry _ before.0 moved before.2,
    )

pub loop-alloc-smaller : goal.loop-alloc-smaller
loop-alloc-smaller c =
    let entry = entry_of c.in_ok-step.step in
    let moved = entries_moved c.args.self.now.source.policy.rules c.rules.result.now c.args.self.now.groups.items c.as_slice.result.now _ _ _ _ entry
    c.rules.ensures.value c.as_slice.ensures.value c.in_ok-step.ensures in
    omega (arith, entries_less _ _ entry moved)

pub loop-alloc-init : goal.loop-alloc-init
loop-alloc-init c = ([], search rules, refl)

pub returns : goal.returns
returns c =
    let before = c.loop-alloc.invariant in
    let long : length c.as_str.result.now ≡ length c.from.result = cc in
    record {
      rows = before.0;
      lines = subst (λ (t : List ℕ). AreLines before.0 t) (sym c.from.ensures) before.1;
      next = before.2;
      full = ⊎_elim (λ (h : 65536 ≤ length c.as_str.result.now). inl (subst (λ (n : ℕ). 65536 ≤ n) long h)) (λ (h : length c.args.self.now.groups.items ≤ c.loop-alloc.next.group). inr h)
          (c.is_open.ensures.shut c.loop-alloc-test.false);
    }
