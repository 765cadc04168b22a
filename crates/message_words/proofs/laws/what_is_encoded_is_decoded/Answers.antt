use Rattle.message_words.proofs.MessagesBack.{decoded_again}
use Rattle.message_words.proofs.laws.what_is_encoded_is_decoded.Goals as goal

pub returns : goal.returns
returns c = decoded_again
