pub mod RootHeap
