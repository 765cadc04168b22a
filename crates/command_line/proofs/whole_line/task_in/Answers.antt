use Rattle.std.proofs.Common.{◌≡◌, ◌∙◌, [], Some, ap, option_map, sym, unwrap_or}
use Rattle.clap.specs.Words.{found_of, rows_of}
use Rattle.command_line.specs.Needs.{all_needs}
use Rattle.command_line.proofs.RowLemmas.{answers_by_rows, entered_is, task_is}
use Rattle.command_line.proofs.whole_line.task_in.Goals as goal

pub returns-clause-given : goal.returns-clause-given
returns-clause-given c =
    task_is c.args.matches.now (found_of c.in_ok-name.of.now) c.in_ok-name.name.now c.subcommand_task.result
    (entered_is c.args.matches.now c.in_ok-name.name.now (rows_of (found_of c.in_ok-name.of.now)) c.in_ok-name.ensures.name c.in_ok-name.ensures.rows)
    c.subcommand_task.ensures.name c.subcommand_task.ensures.given

pub returns-clause-answers : goal.returns-clause-answers
returns-clause-answers c = λ name found is.
    let entered = entered_is c.args.matches.now c.in_ok-name.name.now (rows_of (found_of c.in_ok-name.of.now)) c.in_ok-name.ensures.name c.in_ok-name.ensures.rows in
    let both : Some (name, rows_of found) ≡ Some (c.in_ok-name.name.now, rows_of (found_of c.in_ok-name.of.now)) = sym is ∙ entered in
    let rows_same : rows_of found ≡ rows_of (found_of c.in_ok-name.of.now) = ap (λ o. unwrap_or (option_map (λ p. p.1) o) []) both in
    let name_same : name ≡ c.in_ok-name.name.now = ap (λ o. unwrap_or (option_map (λ p. p.0) o) []) both in
    answers_by_rows (found_of c.in_ok-name.of.now) found c.in_ok-name.name.now name all_needs c.subcommand_task.result rows_same name_same c.subcommand_task.ensures.answers
