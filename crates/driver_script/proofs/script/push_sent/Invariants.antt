use Rattle.std.proofs.Common.{◌≡◌, ◌++◌, drop}
use Rattle.std.specs.String.{string_bytes}
use Rattle.driver_script.specs.Script.{sent_text}
use Rattle.driver_script.proofs.script.push_sent.Given as goal

-- the text so far, with the datagrams that are left, is the text of all
abbrev pub invariant-loop-datagram : goal.invariant-loop-datagram
invariant-loop-datagram l =
    string_bytes l.text ++ sent_text l.to (drop l.datagram-index l.datagrams)
    ≡ string_bytes l.fn.text ++ sent_text l.to l.datagrams
