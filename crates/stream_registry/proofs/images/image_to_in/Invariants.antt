use Rattle.std.proofs.Common.{◌≡◌, drop, find}
use Rattle.channel_uri.specs.Channel.{endpoint_shape}
use Rattle.stream_registry.specs.Images.{is_image_at}
use Rattle.stream_registry.proofs.images.image_to_in.Given as goal

-- the logs that are left decide
abbrev pub invariant-loop-log : goal.invariant-loop-log
invariant-loop-log l =
    find (is_image_at (endpoint_shape l.endpoint) l.session l.stream) (drop l.log-index l.logs)
    ≡ find (is_image_at (endpoint_shape l.endpoint) l.session l.stream) l.logs
