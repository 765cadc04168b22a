use Rattle.std.specs.Prelude.{ℕ, List, codes}
use Rattle.channel_uri.specs.declared.media.Media.{Media}
use Rattle.channel_uri.specs.declared.media.Media.TheVariants.{Udp, Ipc, Counter}

-- the word that stands for a medium in a text
abbrev pub name_of : Media → List ℕ
name_of Udp = codes "udp"
name_of Ipc = codes "ipc"
name_of Counter = codes "counter"

-- media differ by number
abbrev pub media_number : Media → ℕ
media_number Udp = 0
media_number Ipc = 1
media_number Counter = 2
