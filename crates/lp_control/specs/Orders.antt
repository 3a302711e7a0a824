-- What the operator asks for, as a caller sees it.
use Rattle.lp_wire.specs.Heard.{Order, Stop, ReloadFile, Unknown}
use Rattle.lp_control.specs.declared.order.Order.{Order as Asked}
use Rattle.lp_control.specs.declared.order.Order.TheVariants as asked

abbrev pub meant : Asked → Order
meant asked.Stop = Stop
meant (asked.Reload path) = ReloadFile path.now
meant asked.Unknown = Unknown
