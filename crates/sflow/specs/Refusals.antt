-- The numbers of the refusals (document 01, "Reader answers").
use Rattle.std.specs.Prelude.{ℕ}
use Rattle.sflow.specs.declared.Refusal.{Refusal}
use Rattle.sflow.specs.declared.Refusal.TheVariants.{CutItem, CutString, Version, AddressType, SampleType, PacketDataType, HeaderProtocol, HeaderLength, ExtendedDataType, SegmentType, UrlDirection, CountersVersion, Padding, Trailing, TooLong}

abbrev pub refusal_number : Refusal → ℕ
refusal_number CutItem = 1
refusal_number CutString = 1
refusal_number Version = 2
refusal_number AddressType = 3
refusal_number SampleType = 4
refusal_number PacketDataType = 5
refusal_number HeaderProtocol = 6
refusal_number HeaderLength = 7
refusal_number ExtendedDataType = 8
refusal_number SegmentType = 9
refusal_number UrlDirection = 10
refusal_number CountersVersion = 11
refusal_number Padding = 12
refusal_number Trailing = 13
refusal_number TooLong = 14
