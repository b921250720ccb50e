-- The variants of the source and their operands, line by line after kagari's instruction.rs, operands.rs and flow.rs. A field of a variant is
-- given as the place where it stands among the fields of its record; fields that are no slot, module slot or target are left out.
use Rattle.std.specs.Prelude.{List, [], ◌∷◌}
use Rattle.operands.specs.Places.{Place, one, optional, rest}

-- `BytecodeInstruction` of instruction.rs, in its order
pub data Variant : Type 0 where
  Await : (dst value : Place) → Variant
  Convert : (dst src : Place) → Variant
  Numeric : (dst lhs rhs : Place) → Variant
  Iter : (dst value : Place) → Variant
  LoadConst : (dst : Place) → Variant
  LoadModule : (dst slot : Place) → Variant
  StoreModule : (slot src : Place) → Variant
  Move : (dst src : Place) → Variant
  Unary : (dst operand : Place) → Variant
  Binary : (dst lhs rhs : Place) → Variant
  BinaryOperands : (dst lhs rhs : Place) → Variant
  PredicateBranch : (lhs rhs then-target else-target : Place) → Variant
  Call : (dst callee args : Place) → Variant
  MakeTuple : (dst elements : Place) → Variant
  RangeBound : (dst value : Place) → Variant
  MakeRange : (dst start end : Place) → Variant
  RepeatArray : (dst value count : Place) → Variant
  MakeArray : (dst elements : Place) → Variant
  MakeFuture : (dst arguments : Place) → Variant
  MakeClosure : (dst captures : Place) → Variant
  MakeCell : (dst value : Place) → Variant
  ReadCell : (dst cell : Place) → Variant
  WriteCell : (cell value : Place) → Variant
  UpcastInterface : (dst value : Place) → Variant
  MakeInterface : (dst value : Place) → Variant
  MakeStruct : (dst fields : Place) → Variant
  MakeEnum : (dst fields : Place) → Variant
  TestEnumVariant : (dst value : Place) → Variant
  ReadEnumPayload : (dst value : Place) → Variant
  ReadAggregateField : (dst base : Place) → Variant
  WriteAggregateField : (base value : Place) → Variant
  ReadAggregateIndex : (dst base index : Place) → Variant
  WriteAggregateIndex : (base index value : Place) → Variant
  ReadPath : (dst root-or-view dynamic-args : Place) → Variant
  SetPath : (root-or-view value dynamic-args : Place) → Variant
  ModifyPath : (dst root-or-view value dynamic-args : Place) → Variant
  MakePathView : (dst root-or-view dynamic-args : Place) → Variant
  Jump : (target : Place) → Variant
  Branch : (cond then-target else-target : Place) → Variant
  Return : (value : Place) → Variant
  Unreachable : Variant

-- `slot_inputs` of operands.rs, arm by arm: the slots that an instruction reads, in order
unfoldable pub slot_inputs : Variant → List Place
slot_inputs (Await dst value) = value ∷ []
slot_inputs (Convert dst src) = src ∷ []
slot_inputs (Numeric dst lhs rhs) = lhs ∷ rhs ∷ []
slot_inputs (Iter dst value) = value ∷ []
slot_inputs (LoadConst dst) = []
slot_inputs (LoadModule dst slot) = []
slot_inputs (StoreModule slot src) = src ∷ []
slot_inputs (Move dst src) = src ∷ []
slot_inputs (Unary dst operand) = operand ∷ []
slot_inputs (Jump target) = []
slot_inputs Unreachable = []
slot_inputs (Branch cond then-target else-target) = cond ∷ []
slot_inputs (Return value) = value ∷ []
slot_inputs (RangeBound dst value) = value ∷ []
slot_inputs (MakeRange dst start end) = start ∷ end ∷ []
slot_inputs (RepeatArray dst value count) = value ∷ count ∷ []
slot_inputs (Binary dst lhs rhs) = lhs ∷ rhs ∷ []
slot_inputs (BinaryOperands dst lhs rhs) = lhs ∷ rhs ∷ []
slot_inputs (PredicateBranch lhs rhs then-target else-target) = lhs ∷ rhs ∷ []
slot_inputs (Call dst callee args) = args ∷ callee ∷ []
slot_inputs (MakeTuple dst elements) = elements ∷ []
slot_inputs (MakeArray dst elements) = elements ∷ []
slot_inputs (MakeEnum dst fields) = fields ∷ []
slot_inputs (MakeFuture dst arguments) = arguments ∷ []
slot_inputs (MakeClosure dst captures) = captures ∷ []
slot_inputs (MakeCell dst value) = value ∷ []
slot_inputs (ReadCell dst cell) = cell ∷ []
slot_inputs (WriteCell cell value) = cell ∷ value ∷ []
slot_inputs (MakeStruct dst fields) = fields ∷ []
slot_inputs (MakeInterface dst value) = value ∷ []
slot_inputs (UpcastInterface dst value) = value ∷ []
slot_inputs (TestEnumVariant dst value) = value ∷ []
slot_inputs (ReadEnumPayload dst value) = value ∷ []
slot_inputs (ReadAggregateField dst base) = base ∷ []
slot_inputs (WriteAggregateField base value) = base ∷ value ∷ []
slot_inputs (ReadAggregateIndex dst base index) = base ∷ index ∷ []
slot_inputs (WriteAggregateIndex base index value) = base ∷ index ∷ value ∷ []
slot_inputs (ReadPath dst root-or-view dynamic-args) = dynamic-args ∷ root-or-view ∷ []
slot_inputs (MakePathView dst root-or-view dynamic-args) = dynamic-args ∷ root-or-view ∷ []
slot_inputs (SetPath root-or-view value dynamic-args) = dynamic-args ∷ root-or-view ∷ value ∷ []
slot_inputs (ModifyPath dst root-or-view value dynamic-args) = dynamic-args ∷ root-or-view ∷ value ∷ []

-- `slot_output` of operands.rs, arm by arm: the slot that an instruction writes
unfoldable pub slot_output : Variant → List Place
slot_output (LoadConst dst) = dst ∷ []
slot_output (LoadModule dst slot) = dst ∷ []
slot_output (Move dst src) = dst ∷ []
slot_output (Unary dst operand) = dst ∷ []
slot_output (Binary dst lhs rhs) = dst ∷ []
slot_output (BinaryOperands dst lhs rhs) = dst ∷ []
slot_output (MakeTuple dst elements) = dst ∷ []
slot_output (MakeArray dst elements) = dst ∷ []
slot_output (RepeatArray dst value count) = dst ∷ []
slot_output (MakeRange dst start end) = dst ∷ []
slot_output (RangeBound dst value) = dst ∷ []
slot_output (MakeFuture dst arguments) = dst ∷ []
slot_output (MakeClosure dst captures) = dst ∷ []
slot_output (MakeCell dst value) = dst ∷ []
slot_output (ReadCell dst cell) = dst ∷ []
slot_output (MakeStruct dst fields) = dst ∷ []
slot_output (Await dst value) = dst ∷ []
slot_output (Convert dst src) = dst ∷ []
slot_output (Numeric dst lhs rhs) = dst ∷ []
slot_output (Iter dst value) = dst ∷ []
slot_output (MakeEnum dst fields) = dst ∷ []
slot_output (MakeInterface dst value) = dst ∷ []
slot_output (UpcastInterface dst value) = dst ∷ []
slot_output (TestEnumVariant dst value) = dst ∷ []
slot_output (ReadEnumPayload dst value) = dst ∷ []
slot_output (ReadAggregateField dst base) = dst ∷ []
slot_output (ReadAggregateIndex dst base index) = dst ∷ []
slot_output (ReadPath dst root-or-view dynamic-args) = dst ∷ []
slot_output (MakePathView dst root-or-view dynamic-args) = dst ∷ []
slot_output (Call dst callee args) = dst ∷ []
slot_output (ModifyPath dst root-or-view value dynamic-args) = dst ∷ []
slot_output (StoreModule slot src) = []
slot_output (WriteAggregateField base value) = []
slot_output (WriteAggregateIndex base index value) = []
slot_output (SetPath root-or-view value dynamic-args) = []
slot_output (WriteCell cell value) = []
slot_output (Return value) = []
slot_output (Jump target) = []
slot_output (Branch cond then-target else-target) = []
slot_output (PredicateBranch lhs rhs then-target else-target) = []
slot_output Unreachable = []

-- the targets that `graph` of flow.rs takes as leaders and successors, in order
unfoldable pub jump_targets : Variant → List Place
jump_targets (Await dst value) = []
jump_targets (Convert dst src) = []
jump_targets (Numeric dst lhs rhs) = []
jump_targets (Iter dst value) = []
jump_targets (LoadConst dst) = []
jump_targets (LoadModule dst slot) = []
jump_targets (StoreModule slot src) = []
jump_targets (Move dst src) = []
jump_targets (Unary dst operand) = []
jump_targets (Binary dst lhs rhs) = []
jump_targets (BinaryOperands dst lhs rhs) = []
jump_targets (PredicateBranch lhs rhs then-target else-target) = then-target ∷ else-target ∷ []
jump_targets (Call dst callee args) = []
jump_targets (MakeTuple dst elements) = []
jump_targets (RangeBound dst value) = []
jump_targets (MakeRange dst start end) = []
jump_targets (RepeatArray dst value count) = []
jump_targets (MakeArray dst elements) = []
jump_targets (MakeFuture dst arguments) = []
jump_targets (MakeClosure dst captures) = []
jump_targets (MakeCell dst value) = []
jump_targets (ReadCell dst cell) = []
jump_targets (WriteCell cell value) = []
jump_targets (UpcastInterface dst value) = []
jump_targets (MakeInterface dst value) = []
jump_targets (MakeStruct dst fields) = []
jump_targets (MakeEnum dst fields) = []
jump_targets (TestEnumVariant dst value) = []
jump_targets (ReadEnumPayload dst value) = []
jump_targets (ReadAggregateField dst base) = []
jump_targets (WriteAggregateField base value) = []
jump_targets (ReadAggregateIndex dst base index) = []
jump_targets (WriteAggregateIndex base index value) = []
jump_targets (ReadPath dst root-or-view dynamic-args) = []
jump_targets (SetPath root-or-view value dynamic-args) = []
jump_targets (ModifyPath dst root-or-view value dynamic-args) = []
jump_targets (MakePathView dst root-or-view dynamic-args) = []
jump_targets (Jump target) = target ∷ []
jump_targets (Branch cond then-target else-target) = then-target ∷ else-target ∷ []
jump_targets (Return value) = []
jump_targets Unreachable = []

-- document 01, "Bodies": where the fields of each variant stand in its record, kinds 1 to 41 in order
unfoldable pub variants : List Variant
variants =
    Await (one 0) (one 1) ∷
    Convert (one 0) (one 1) ∷
    Numeric (one 0) (one 1) (optional 2) ∷
    Iter (one 0) (optional 1) ∷
    LoadConst (one 0) ∷
    LoadModule (one 0) (one 1) ∷
    StoreModule (one 0) (one 1) ∷
    Move (one 0) (one 1) ∷
    Unary (one 0) (one 1) ∷
    Binary (one 0) (one 1) (one 2) ∷
    BinaryOperands (one 0) (optional 1) (optional 2) ∷
    PredicateBranch (optional 0) (optional 1) (one 2) (one 3) ∷
    Call (optional 0) (optional 1) (rest 2) ∷
    MakeTuple (one 0) (rest 1) ∷
    RangeBound (one 0) (one 1) ∷
    MakeRange (one 0) (optional 1) (optional 2) ∷
    RepeatArray (one 0) (one 1) (one 2) ∷
    MakeArray (one 0) (rest 1) ∷
    MakeFuture (one 0) (rest 1) ∷
    MakeClosure (one 0) (rest 1) ∷
    MakeCell (one 0) (one 1) ∷
    ReadCell (one 0) (one 1) ∷
    WriteCell (one 0) (one 1) ∷
    UpcastInterface (one 0) (one 1) ∷
    MakeInterface (one 0) (one 1) ∷
    MakeStruct (one 0) (rest 1) ∷
    MakeEnum (one 0) (rest 1) ∷
    TestEnumVariant (one 0) (one 1) ∷
    ReadEnumPayload (one 0) (one 1) ∷
    ReadAggregateField (one 0) (one 1) ∷
    WriteAggregateField (one 0) (one 1) ∷
    ReadAggregateIndex (one 0) (one 1) (one 2) ∷
    WriteAggregateIndex (one 0) (one 1) (one 2) ∷
    ReadPath (one 0) (one 1) (rest 2) ∷
    SetPath (one 0) (one 1) (rest 2) ∷
    ModifyPath (optional 0) (one 1) (one 2) (rest 3) ∷
    MakePathView (one 0) (one 1) (rest 2) ∷
    Jump (one 0) ∷
    Branch (one 0) (one 1) (one 2) ∷
    Return (optional 0) ∷
    Unreachable ∷
    []
