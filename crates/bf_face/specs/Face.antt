-- The six faces of a box.
use Rattle.std.specs.Prelude.{ℕ, List, [], ◌∷◌}
use Rattle.bf_face.specs.declared.face.Face.{Face}
use Rattle.bf_face.specs.declared.face.Face.TheVariants.{XLow, XHigh, YLow, YHigh, ZLow, ZHigh}

-- the six
abbrev pub all_faces : List Face
all_faces = XLow ∷ XHigh ∷ YLow ∷ YHigh ∷ ZLow ∷ ZHigh ∷ []

-- the place of a face in the list of the six
abbrev pub number_of : Face → ℕ
number_of XLow = 0
number_of XHigh = 1
number_of YLow = 2
number_of YHigh = 3
number_of ZLow = 4
number_of ZHigh = 5

-- the same face as it lies on the box on its other side
abbrev pub opposite_of : Face → Face
opposite_of XLow = XHigh
opposite_of XHigh = XLow
opposite_of YLow = YHigh
opposite_of YHigh = YLow
opposite_of ZLow = ZHigh
opposite_of ZHigh = ZLow
