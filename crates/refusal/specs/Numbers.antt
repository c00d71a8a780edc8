-- The numbers of the refusals and of their layers.
--   code e      the number of the refusal e, 1 to 17
--   depth l     the number of the layer l, 1 to 4
--   layer_of i  the number of the layer that the refusal of number i comes from
use Rattle.std.specs.Prelude.{ℕ, cond, ◌||◌, ◌==◌}
use Rattle.refusal.specs.declared.Refusal.{Refusal}
use Rattle.refusal.specs.declared.Refusal.TheVariants.{BadSize, MapNotEmpty, NumberTooLarge, NumberBusy, NoBlockWaiting, BlockMapFull, NoSuchGrant, StreamAlreadyOpen, StreamNotOpen, StreamAtEnd, BadLength, StreamMapFull, FieldCutShort, UnknownTag, WrongFieldLength, TapeTooLong, AreaTooShort}
use Rattle.refusal.specs.declared.Layer.{Layer}
use Rattle.refusal.specs.declared.Layer.TheVariants.{Field, Call, Service, Map}

abbrev pub code : Refusal → ℕ
code BadSize = 1
code MapNotEmpty = 2
code NumberTooLarge = 3
code NumberBusy = 4
code NoBlockWaiting = 5
code BlockMapFull = 6
code NoSuchGrant = 7
code StreamAlreadyOpen = 8
code StreamNotOpen = 9
code StreamAtEnd = 10
code BadLength = 11
code StreamMapFull = 12
code FieldCutShort = 13
code UnknownTag = 14
code WrongFieldLength = 15
code TapeTooLong = 16
code AreaTooShort = 17

abbrev pub depth : Layer → ℕ
depth Field = 1
depth Call = 2
depth Service = 3
depth Map = 4

-- a cut field and a tape too long are the field's, a tag and a length the call's, a full map the map's, and all else the service's
abbrev pub layer_of : ℕ → ℕ
layer_of i =
    cond (i == 13 || i == 16) 1
    (cond (i == 14 || i == 15) 2
    (cond (i == 6 || i == 12) 4 3))
