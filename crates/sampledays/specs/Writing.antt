-- Short ways to write the steps of a day.
use Rattle.std.specs.Prelude.{ℕ, List, [], length, Ok, Err}
use Rattle.orders.specs.declared.call.Call.{Call}
use Rattle.orders.specs.declared.call.Call.TheVariants as call
use Rattle.orders.specs.declared.call.Fill.{Fill}
use Rattle.orders.specs.declared.refusal.Refusal.{Refusal}
use Rattle.orders.specs.declared.side.Side.TheVariants.{Buy, Sell}
use Rattle.sampledays.specs.Playing.{Step}

-- an attributed, visible order
abbrev pub order : (side kind shares limit minimum broker : ℕ) → Call
order side kind shares limit minimum broker = call.Enter (record {
  side = side;
  kind = kind;
  shares = shares;
  limit = limit;
  minimum = minimum;
  broker = broker;
  mark = 0;
  hidden = 0;
})

abbrev pub buy : (broker kind shares limit minimum : ℕ) → Call
buy broker kind shares limit minimum = order 1 kind shares limit minimum broker

-- every seller is broker 50
abbrev pub sell : (kind shares limit : ℕ) → Call
sell kind shares limit = order 2 kind shares limit 0 50

abbrev pub amends : (number shares limit : ℕ) → Call
amends number shares limit = call.Amend (record { number = number; shares = shares; limit = limit })

-- a fill with the buyer active, and one with the seller active
abbrev pub bought : (buyer seller price shares : ℕ) → Fill
bought buyer seller price shares = record { buyer = buyer; seller = seller; price = price; shares = shares; active = Buy }

abbrev pub sold : (buyer seller price shares : ℕ) → Fill
sold buyer seller price shares = record { buyer = buyer; seller = seller; price = price; shares = shares; active = Sell }

-- accepted, with these four numbers and as many fills as are listed
abbrev pub gives : Call → (number filled resting cancelled : ℕ) → List Fill → Step
gives c number filled resting cancelled fills = record {
  call = c;
  reply = Ok (record { number = number; filled = filled; resting = resting; cancelled = cancelled; fills = length fills });
  fills = fills;
}

-- an entry that rests whole
abbrev pub rests : Call → (number shares : ℕ) → Step
rests c number shares = gives c number 0 shares 0 []

-- an entry that fills whole
abbrev pub fills : Call → (number shares : ℕ) → List Fill → Step
fills c number shares made = gives c number shares 0 0 made

-- an entry of which nothing fills and nothing rests
abbrev pub lapses : Call → (number shares : ℕ) → Step
lapses c number shares = gives c number 0 0 shares []

-- sent back, without fills
abbrev pub meets_refusal : Call → Refusal → Step
meets_refusal c x = record { call = c; reply = Err x; fills = [] }

-- a quote that trades nothing
abbrev pub quotes : (bid offer : ℕ) → Step
quotes bid offer = gives (call.Quote bid offer) 0 0 0 0 []
