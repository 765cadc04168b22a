-- A subscription that is asked about, as a row.
use Rattle.stream_registry.specs.declared.row.Subscription.{Subscription}
use Rattle.stream_registry.specs.declared.wish.Wish.{Wish}

abbrev pub row_of : Wish → Subscription
row_of wish =
    record { number = wish.number; client = wish.client; channel = wish.channel.now; stream = wish.stream }
