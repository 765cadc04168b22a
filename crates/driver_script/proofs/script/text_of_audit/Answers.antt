use Rattle.std.specs.String.{string_bytes}
use Rattle.driver_script.proofs.AuditLemmas.{if_ok, nothing_text}
use Rattle.driver_script.proofs.script.text_of_audit.Goals as goal

pub returns-in-None : goal.returns-in-None
returns-in-None c =
    rw c.in-None.is (if_ok _ _ c.text_of_line.result (λ text is. nothing_text (string_bytes text) is) c.text_of_line.ensures)
