mod RowWords
