mod ShelfLengths
