-- The lines that say what went by. Own rules.
use Rattle.std.specs.Prelude.{ℕ, List, ◌++◌, codes}
use Rattle.std.specs.Fmt.{decimal}
use Rattle.piped_messages.specs.declared.figures.Losses.{Losses}
use Rattle.piped_messages.specs.declared.figures.Received.{Received}
use Rattle.piped_messages.specs.declared.figures.Sent.{Sent}

abbrev pub losses_text : Losses → List ℕ
losses_text losses =
    codes "naks " ++ (decimal losses.naks ++ (codes " resent " ++ (decimal losses.resent
    ++ (codes " bad " ++ (decimal losses.bad ++ (codes " failed " ++ decimal losses.failed))))))

abbrev pub sent_text : Sent → List ℕ
sent_text sent =
    codes "sent " ++ (decimal sent.messages ++ (codes " messages " ++ (decimal sent.bytes ++ (codes " bytes position "
    ++ (decimal sent.position ++ (codes " consumed " ++ (decimal sent.consumed ++ (codes " " ++ losses_text sent.losses))))))))

abbrev pub received_text : Received → List ℕ
received_text received =
    codes "received " ++ (decimal received.messages ++ (codes " messages " ++ (decimal received.bytes ++ (codes " bytes position "
    ++ (decimal received.position ++ (codes " images " ++ (decimal received.images ++ (codes " " ++ losses_text received.losses))))))))
