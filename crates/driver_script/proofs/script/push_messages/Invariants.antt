use Rattle.std.proofs.Common.{◌≡◌, ◌++◌, drop}
use Rattle.std.specs.List.{flat_map}
use Rattle.std.specs.String.{string_bytes}
use Rattle.driver_script.specs.Script.{message_text}
use Rattle.driver_script.proofs.script.push_messages.Given as goal

-- the text so far, with the messages that are left, is the text of all
abbrev pub invariant-loop-message : goal.invariant-loop-message
invariant-loop-message l =
    string_bytes l.text ++ flat_map message_text (drop l.message-index l.messages)
    ≡ string_bytes l.fn.text ++ flat_map message_text l.messages
