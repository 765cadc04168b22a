use Rattle.driver_laws.proofs.StayingLemmas.{no_image_unread}
use Rattle.driver_laws.proofs.no_image_is_unread.Goals as goal

pub returns : goal.returns
returns c = no_image_unread
