use Rattle.std.proofs.Common.{◌≡◌, ℕ, sym, ap, ◌∙◌, subst}
use Rattle.frame_codec.specs.Frame.{sent}
use Rattle.image_log.specs.Handed.{IsFor, position_in}
use Rattle.image_log.specs.declared.ident.Ident.{Ident}
use Rattle.log_traffic.proofs.receiving.hand_in.Goals as goal

pub insert-requires : goal.insert-requires
insert-requires c =
    let ident : Ident = c.args.log.now.rebuilt.ident in
    let at : c.position_in-position.result ≡ position_in ident c.args.frame.now.header.place =
    c.position_in-position.ensures ∙ ap (λ (i : Ident). position_in i c.args.frame.now.header.place) c.ident.ensures.value in
    subst (λ (p : ℕ). IsFor ident p c.args.frame.now.bytes.now) (sym at)
    (c.frames_may_be_handed_in.ensures ident (sent c.args.frame.now) c.requires.told c.requires.here.session c.requires.here.stream)
