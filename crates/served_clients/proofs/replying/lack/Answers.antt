use Rattle.std.proofs.Common.{◌≡◌, IfOk, List, ℕ, codes, subst}
use Rattle.command_codec.specs.Reply.{reply_bytes}
use Rattle.command_codec.specs.declared.error_code.ErrorCode.TheVariants as error_codes
use Rattle.command_codec.specs.declared.reply.Reply.TheVariants as layouts
use Rattle.served_clients.proofs.replying.lack.Goals as goal

pub returns : goal.returns
returns c =
    let e : c.in_ok-text.text ≡ codes "no memory" = c.in_ok-text.ensures in
    subst (λ (t : List ℕ). IfOk c.write.result (λ bytes. bytes ≡ reply_bytes (layouts.Error (record { correlation = c.args.correlation; code = error_codes.NoMemory; text = t })))) e c.write.ensures
