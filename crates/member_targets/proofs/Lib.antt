mod ByKind
