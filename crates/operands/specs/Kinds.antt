-- The kinds of instruction, and what the engine tells apart.
use Rattle.std.specs.Prelude.{◌≡◌, Bool, ◌||◌, ◌&&◌, List, [], ◌∷◌, ℕ, ◌-◌, ◌<◌, ◌⊎◌, eqb, leb, get_or, Result, MatchResult}
use Rattle.operands.specs.declared.kind.Kind.{Kind}
use Rattle.operands.specs.declared.kind.UnknownKind.{UnknownKind}
use Rattle.operands.specs.declared.kind.Kind.TheVariants.{
  Await,
  Convert,
  Numeric,
  Iter,
  LoadConst,
  LoadModule,
  StoreModule,
  Move,
  Unary,
  Binary,
  BinaryOperands,
  PredicateBranch,
  Call,
  MakeTuple,
  RangeBound,
  MakeRange,
  RepeatArray,
  MakeArray,
  MakeFuture,
  MakeClosure,
  MakeCell,
  ReadCell,
  WriteCell,
  UpcastInterface,
  MakeInterface,
  MakeStruct,
  MakeEnum,
  TestEnumVariant,
  ReadEnumPayload,
  ReadAggregateField,
  WriteAggregateField,
  ReadAggregateIndex,
  WriteAggregateIndex,
  ReadPath,
  SetPath,
  ModifyPath,
  MakePathView,
  Jump,
  Branch,
  Return,
  Unreachable,
}

-- the number of a kind in a sheet: document 01, "Bodies, as kind numbers"
abbrev pub kind_number : Kind → ℕ
kind_number Await = 1
kind_number Convert = 2
kind_number Numeric = 3
kind_number Iter = 4
kind_number LoadConst = 5
kind_number LoadModule = 6
kind_number StoreModule = 7
kind_number Move = 8
kind_number Unary = 9
kind_number Binary = 10
kind_number BinaryOperands = 11
kind_number PredicateBranch = 12
kind_number Call = 13
kind_number MakeTuple = 14
kind_number RangeBound = 15
kind_number MakeRange = 16
kind_number RepeatArray = 17
kind_number MakeArray = 18
kind_number MakeFuture = 19
kind_number MakeClosure = 20
kind_number MakeCell = 21
kind_number ReadCell = 22
kind_number WriteCell = 23
kind_number UpcastInterface = 24
kind_number MakeInterface = 25
kind_number MakeStruct = 26
kind_number MakeEnum = 27
kind_number TestEnumVariant = 28
kind_number ReadEnumPayload = 29
kind_number ReadAggregateField = 30
kind_number WriteAggregateField = 31
kind_number ReadAggregateIndex = 32
kind_number WriteAggregateIndex = 33
kind_number ReadPath = 34
kind_number SetPath = 35
kind_number ModifyPath = 36
kind_number MakePathView = 37
kind_number Jump = 38
kind_number Branch = 39
kind_number Return = 40
kind_number Unreachable = 41

-- the result is the kind with this number, or an error with a number that no kind has
abbrev pub Numbers : ℕ → Result Kind UnknownKind → Type 0
Numbers n r = MatchResult r (λ k. kind_number k ≡ n) (λ e. (e.0 ≡ n) × ((n < 1) ⊎ (41 < n)))

-- document 01, module 3: a block ends with kinds 12 and 38 to 41 (`graph` of flow.rs)
unfoldable pub ends_block : ℕ → Bool
ends_block k = eqb k 12 || (leb 38 k && leb k 41)

-- `Await`, the first variant of `BytecodeInstruction`
unfoldable pub is_await : ℕ → Bool
is_await k = eqb k 1

-- the kinds in the order of their numbers, from 1 on
unfoldable pub kinds : List Kind
kinds =
    Await ∷
    Convert ∷
    Numeric ∷
    Iter ∷
    LoadConst ∷
    LoadModule ∷
    StoreModule ∷
    Move ∷
    Unary ∷
    Binary ∷
    BinaryOperands ∷
    PredicateBranch ∷
    Call ∷
    MakeTuple ∷
    RangeBound ∷
    MakeRange ∷
    RepeatArray ∷
    MakeArray ∷
    MakeFuture ∷
    MakeClosure ∷
    MakeCell ∷
    ReadCell ∷
    WriteCell ∷
    UpcastInterface ∷
    MakeInterface ∷
    MakeStruct ∷
    MakeEnum ∷
    TestEnumVariant ∷
    ReadEnumPayload ∷
    ReadAggregateField ∷
    WriteAggregateField ∷
    ReadAggregateIndex ∷
    WriteAggregateIndex ∷
    ReadPath ∷
    SetPath ∷
    ModifyPath ∷
    MakePathView ∷
    Jump ∷
    Branch ∷
    Return ∷
    Unreachable ∷
    []

-- the kind with a number: document 01 has 1 to 41
abbrev pub kind_of : ℕ → Kind
kind_of n = get_or kinds (n - 1) Unreachable
